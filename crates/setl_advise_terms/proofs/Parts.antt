-- Selectors, one by one.
use Rattle.std.proofs.Common.{◌≡◌, ℕ, ◌+◌, ◌<◌, List, ◌∷◌, drop, length, refl, ap, sym, ◌∙◌}
use Rattle.std.proofs.Math.ListN.{get_or}
use Rattle.setl_program.specs.declared.stmt.Selector.{Selector}
use Rattle.setl_program.specs.declared.stmt.Selector.TheVariants as sel
use Rattle.setl_program.specs.declared.stmt.Place.{Place}
use Rattle.setl_program.specs.code.Plain.{plain_variable, plain_place, selectors_of}
use Rattle.setl_advise_flows.specs.Flow.{Flow}
use Rattle.setl_advise_flows.specs.Expressions.{Flows, At, ats_of, part_flow, whole_flow}
use Rattle.setl_advise_conditions.specs.Conditions.{after_flow}
use Rattle.setl_advise_terms.specs.Selected.{at_of, inner, levels_of, rebuilt, rebuilt_is}
use Rattle.setl_advise_terms.proofs.Links.{drop_at}

part_item : (t : Flows) (x : Selector) (rest : List Selector) (f : Flow) → part_flow (ats_of t (selectors_of (x ∷ rest))) f ≡ part_flow (ats_of t (selectors_of rest)) (inner (at_of t x) f)
part_item t (sel.Round e) rest f = refl
part_item t (sel.Brace e) rest f = refl

pub part_round : (t : Flows) (ss : List Selector) (k : ℕ) (x : Selector) (f g : Flow) → k < length ss → x ≡ get_or ss k x → g ≡ inner (at_of t x) f → part_flow (ats_of t (selectors_of (drop (k + 1) ss))) g ≡ part_flow (ats_of t (selectors_of (drop k ss))) f
part_round t ss k x f g within read is =
    ap (part_flow (ats_of t (selectors_of (drop (k + 1) ss)))) is
    ∙ sym (part_item t x (drop (k + 1) ss) f)
    ∙ ap (λ (r : List Selector). part_flow (ats_of t (selectors_of r)) f) (sym (drop_at ss k x within read))

pub after_done : (s : Flows) (p : Place) (ss : List Selector) (ls : List (At × Flow)) (whole y r : Flow) → ss ≡ p.selectors → whole ≡ s.of (plain_variable p.variable) → ls ≡ levels_of (ats_of s (selectors_of ss)) whole → r ≡ rebuilt ls y → r ≡ after_flow s (plain_place p) y
after_done s p ss ls whole y r same at is e =
    e ∙ ap (λ ls. rebuilt ls y) is
    ∙ rebuilt_is (ats_of s (selectors_of ss)) whole y
    ∙ ap (λ f. whole_flow (ats_of s (selectors_of ss)) f y) at
    ∙ ap (λ (r : List Selector). whole_flow (ats_of s (selectors_of r)) (s.of (plain_variable p.variable)) y) same
