use Rattle.std.proofs.Common.{◌≡◌, ◌<◌, ◌≤◌, ◌∙◌, sym, arith, length}
use Rattle.std.proofs.lemmas.Bool.{false≢true, eqb-true, eq-eqb}
use Rattle.setl_value.specs.code.Body.{Members}
use Rattle.setl_value.specs.Datum.{depth, set_of}
use Rattle.setl_set.specs.Subsets.{set_of_sets, subsets_between}
use Rattle.setl_set.proofs.Depths.{deep_when, deep_only}
use Rattle.setl_set.proofs.Places.{rising_from_set}
use Rattle.setl_set.proofs.power.is_deep.Goals.{then-most-eq0-via-then-most-eq0, then-most-eq0-via-else-most-eq0+then-len-least}
use Rattle.setl_set.proofs.power.is_deep.Goals as goal

pub returns-then-most-eq0 : goal.returns-then-most-eq0
returns-then-most-eq0 c =
    let l = c.args.least in
    let m = c.args.most in
    let ds = Members c.args.s.now in
    let only : 500 < depth (set_of (set_of_sets (subsets_between l m ds))) → (depth (set_of ds) ≡ 500) × (0 < m) × (l ≤ length ds) = deep_only l m ds (rising_from_set ds c.learn.ensures) c.learn.ensures.1 in (
      λ t. absurd (false≢true t),
      λ h. absurd (elim c.then-most-eq0.branch [
        | then-most-eq0-via-then-most-eq0 w ↦ omega (arith, (only h).1, w.if-most-eq0.true)
        | then-most-eq0-via-else-most-eq0+then-len-least w ↦ omega (arith, (only h).2, w.if-len-least.true, w.len.ensures)
      ]),
    )

pub returns : goal.returns
returns c =
    let l = c.args.least in
    let m = c.args.most in
    let ds = Members c.args.s.now in
    let rise = rising_from_set ds c.learn.ensures in (
      λ t. deep_when l m ds rise c.requires (omega arith) (omega (arith, c.if-len-least.false, c.len.ensures)) (sym c.depth.ensures ∙ eqb-true c.depth.result 500 t),
      λ h. eq-eqb c.depth.result 500 (c.depth.ensures ∙ (deep_only l m ds rise c.learn.ensures.1 h).0),
    )
