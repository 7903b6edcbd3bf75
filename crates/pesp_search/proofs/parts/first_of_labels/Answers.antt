-- Each index takes the marks away that its label rules out.
use Rattle.std.proofs.Common.{◌≡◌, ◌∙◌, ◌++◌, IsTrue, false, length, take, drop, replicate, get_or, None, sym, ap, subst, arith, rules}
use Rattle.std.proofs.lemmas.List.{get_or_read, length-replicate}
use Rattle.pesp_instance.specs.Network.{event_ids, window_of}
use Rattle.pesp_search.specs.Parts.{IsFirst}
use Rattle.pesp_search.proofs.Labels.{first_more, first_none, marked_all, none_there, written_back}
use Rattle.pesp_search.proofs.parts.first_of_labels.Goals as goal

pub loop-index-init : goal.loop-index-init
loop-index-init c =
    let all : c.in-Ok.marks.items ≡ replicate (length c.args.events.now) c.args.are_agreed = search rules in
    record {
      long = ap length all ∙ length-replicate (length c.args.events.now) c.args.are_agreed;
      first = λ k is. (
        marked_all c.args.are_agreed (length c.args.events.now) k (subst (λ xs. IsTrue (get_or xs k false)) all is),
        first_none c.args.instance.now c.args.labels.now k,
      );
    }

pub loop-index-preserved : goal.loop-index-preserved
loop-index-preserved c =
    let I = c.args.instance.now in
    let labels = c.args.labels.now in
    let index = c.loop-index.index in
    let whole : c.loop-index.marks.len ≡ length c.mark.new.marks = search rules in
    let after : take c.loop-index.marks.len (c.mark.new.marks ++ drop (length c.mark.new.marks) c.loop-index.marks.items) ≡ c.mark.new.marks = written_back c.loop-index.marks.len c.mark.new.marks c.loop-index.marks.items whole in
    let here = c.loop-index-test.true in
    let item : c.index-events-index.result ≡ get_or (event_ids I) index 0 =
    get_or_read c.args.events.now index c.index-events-index.result here c.index-events-index.is 0 ∙ ap (λ ids. get_or ids index 0) c.requires.events in
    record {
      long = ap length after ∙ c.mark.ensures.long ∙ ap length c.deref_mut.ensures.value ∙ c.loop-index.invariant.long;
      first = λ k is.
          let left = c.mark.ensures.marked k (subst (λ xs. IsTrue (get_or xs k false)) after is) in
          let before = c.loop-index.invariant.first k (subst (λ xs. IsTrue (get_or xs k false)) c.deref_mut.ensures.value left.0) in (
            before.0,
            first_more I labels index k before.1 left.1
                (λ same.
                let w = left.2 same in
                let low = w.0 in
                let none : window_of I (get_or (event_ids I) index 0) ≡ None = ap (window_of I) (sym item) ∙ sym c.window.ensures.value ∙ none_there c.window.result (sym c.is_some-has_window.ensures ∙ w.1) in
                (omega (arith, low, same), none)),
          );
    }

pub returns-clause-first : goal.returns-clause-first
returns-clause-first c = λ k is.
    let end : c.loop-index.index ≡ length c.args.events.now = omega (arith, c.loop-index-test.false, c.loop-index.auto.index-end) in
    let first = c.loop-index.invariant.first k is in
    (first.0, subst (λ n. IsFirst c.args.instance.now c.args.labels.now n k) end first.1)
