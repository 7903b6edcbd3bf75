-- Arcs and rows that are told apart by what they have.
use Rattle.std.proofs.Common.{◌≡◌, Bool, true, false, refl, rules}
use Rattle.std.specs.Bool.{Decides}
use Rattle.std.proofs.lemmas.Bool.Decides.{Decides-eqb, Decides-int_eq}
use Rattle.pesp_search_graph.specs.declared.arc.Arc.{Arc}
use Rattle.pesp_search_graph.specs.contracts.arc.ArcPartialEq.TheImpl.{eq-value}
use Rattle.pesp_search_network.specs.Arcs.{Arcs}
use mathlib.Core.Bool.{beq}

same_arc : (a b : Arc) → eq-value.it a b ≡ true → a ≡ b
same_arc a b e = search (rules, Decides-eqb, Decides-int_eq)

arc_same : (a b : Arc) → a ≡ b → eq-value.it a b ≡ true
arc_same a b e = search (rules, Decides-eqb, Decides-int_eq)

pub decides_arc : (a b : Arc) → Decides (eq-value.it a b) (a ≡ b)
decides_arc a b = (same_arc a b, arc_same a b)

pub decides_bool : (a b : Bool) → Decides (beq a b) (a ≡ b)
decides_bool true true = (λ e. refl, λ e. refl)
decides_bool true false = (λ e. absurd (cc), λ e. absurd (cc))
decides_bool false true = (λ e. absurd (cc), λ e. absurd (cc))
decides_bool false false = (λ e. refl, λ e. refl)

pub same_of : (A B : Arcs) → A.period ≡ B.period → A.events ≡ B.events → A.arcs ≡ B.arcs → A.rows ≡ B.rows → B ≡ A
same_of A B period events arcs rows =
    let left : A ≡ record { period = A.period; events = A.events; arcs = A.arcs; rows = A.rows } = refl in
    let right : B ≡ record { period = B.period; events = B.events; arcs = B.arcs; rows = B.rows } = refl in
    cc
