-- What is sought among maps is told of the timetables that they are.
use Rattle.pesp_search.proofs.Sought.{floor_of_map, map_of_sought, sought_floor, sought_of_map, sought_told}
use Rattle.pesp_search.proofs.seek.seek.Goals as goal

pub with_times-requires-clause-map : goal.with_times-requires-clause-map
with_times-requires-clause-map g c =
    let I = g.K.Keeper.network c.args.keeper.now in
    let map = c.in_ok-sought.sought in
    rw c.instance.ensures (map_of_sought I c.in_ok-network.network c.cap_of-cap.result map.is_end map.best c.requires.network c.in_ok-network.ensures c.in_ok-sought.ensures.best)

pub returns-clause-sought : goal.returns-clause-sought
returns-clause-sought g c =
    let I = g.K.Keeper.network c.args.keeper.now in
    let map = c.in_ok-sought.sought in
    sought_told I c.args.ask.bound c.with_times.result map.is_end _ (rw c.instance.ensures at c.with_times.ensures.best) c.with_times.ensures.end
    (sought_of_map I c.in_ok-network.network c.args.ask.bound c.cap_of-cap.result map.is_end map.best c.requires.network c.in_ok-network.ensures c.cap_of-cap.ensures c.requires.bound c.in_ok-sought.ensures.best)

pub returns-clause-floor : goal.returns-clause-floor
returns-clause-floor g c =
    let I = g.K.Keeper.network c.args.keeper.now in
    let map = c.in_ok-sought.sought in
    sought_floor I c.with_times.result map.floor c.with_times.ensures.floor (floor_of_map I c.in_ok-network.network map.floor c.requires.network c.in_ok-network.ensures c.in_ok-sought.ensures.floor)
