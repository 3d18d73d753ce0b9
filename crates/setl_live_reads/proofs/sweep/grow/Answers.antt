use Rattle.std.proofs.Common.{◌∙◌, ◌<◌, ◌^◌, ℕ, get_or, slice_set, refl, sym, ap, subst, arith}
use Rattle.std.specs.Prelude.{bit_or, bit_and}
use Rattle.setl_live_reads.specs.Masks.{Justified, room_left}
use Rattle.setl_live_reads.proofs.Straight.{step_is}
use Rattle.setl_live_reads.proofs.Growing.{grown_closed, grown_justified, room_less}
use Rattle.setl_live_reads.proofs.sweep.grow.Goals as goal

pub returns-then-all-old-clause-closed : goal.returns-then-all-old-clause-closed
returns-then-all-old-clause-closed c unchanged =
    grown_closed c.args.lasts.now c.args.gens.now c.args.passes.now c.args.masks.now c.args.block _ (step_is c.args.lasts.now c.args.block c.requires.within) c.behind.result (get_or c.args.gens.now c.args.block 0) (get_or c.args.passes.now c.args.block 0) refl refl c.behind.ensures.all
    (ap (λ (w : ℕ). bit_or w (bit_or (get_or c.args.gens.now c.args.block 0) (bit_and c.behind.result (get_or c.args.passes.now c.args.block 0)))) (sym c.at-old.ensures) ∙ c.if-all-old.true ∙ c.at-old.ensures)

pub returns-clause-justified : goal.returns-clause-justified
returns-clause-justified c low high from to before =
    subst (λ (w : ℕ). Justified c.args.lasts.now c.args.gens.now c.args.passes.now low high (slice_set c.args.masks.now c.args.block (bit_or w (bit_or (get_or c.args.gens.now c.args.block 0) (bit_and c.behind.result (get_or c.args.passes.now c.args.block 0)))))) (sym c.at-old.ensures)
    (grown_justified c.args.lasts.now c.args.gens.now c.args.passes.now c.args.masks.now c.args.block _ (step_is c.args.lasts.now c.args.block c.requires.within) c.behind.result (get_or c.args.gens.now c.args.block 0) (get_or c.args.passes.now c.args.block 0) refl refl c.behind.ensures.only (omega (arith, c.requires)) low high from to before)

pub returns-clause-less : goal.returns-clause-less
returns-clause-less c done =
    let fits : get_or c.args.masks.now c.args.block 0 < 2 ^ 64 = omega (arith, c.at-old.ensures, c.at-old.type_inv) in
    subst (λ (w : ℕ). room_left (slice_set c.args.masks.now c.args.block (bit_or w (bit_or (get_or c.args.gens.now c.args.block 0) (bit_and c.behind.result (get_or c.args.passes.now c.args.block 0))))) < room_left c.args.masks.now) (sym c.at-old.ensures)
    (room_less c.args.masks.now c.args.block (bit_or (get_or c.args.gens.now c.args.block 0) (bit_and c.behind.result (get_or c.args.passes.now c.args.block 0))) (omega (arith, c.requires)) fits (λ same. c.if-all-old.false (ap (λ (w : ℕ). bit_or w (bit_or (get_or c.args.gens.now c.args.block 0) (bit_and c.behind.result (get_or c.args.passes.now c.args.block 0)))) c.at-old.ensures ∙ same ∙ sym c.at-old.ensures)))
