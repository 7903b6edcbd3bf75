-- As many guesses as a power of two: its last bits are what a number leaves.
use Rattle.std.proofs.Common.{◌<◌, length, arith}
use Rattle.pesp_counts_arcs.proofs.GuessLaws.{last_bits}
use Rattle.pesp_counts_arcs.proofs.places.guess_index.Goals as goal

pub returns : goal.returns
returns c =
    let small : c.args.number < 18446744073709551616 = omega (arith, c.ranges.number.fits) in
    let few : length c.args.guesses.now < 18446744073709551616 = omega arith in
    last_bits c.args.number (length c.args.guesses.now) c.requires small few
