use Rattle.std.proofs.Common.{sym, ap, ◌∙◌, true, ◌≡◌, []}
use Rattle.std.specs.List.{list_all}
use Rattle.setl_value.specs.code.Body.{Members}
use Rattle.setl_value.specs.Datum.{part_list-parts_of, set_of, tuple_of}
use Rattle.setl_value.specs.code.DatumOf.{datum}
use Rattle.setl_modes.specs.Fits.{datum_fits, part_fits}
use Rattle.setl_modes.specs.Modes.{mode_of}
use Rattle.setl_modes_fit.proofs.Components.{stops}
use Rattle.setl_modes_fit.proofs.Decided.{by_members, rising_members}
use Rattle.setl_modes_fit.proofs.ModeCodes.{of_tuple, set_empty, smap_empty, mmap_empty}
use Rattle.setl_modes_fit.proofs.values.+fitting.Goals as goal

pub value_fits-returns-in-Tuple-Tuple : goal.value_fits-returns-in-Tuple-Tuple
value_fits-returns-in-Tuple-Tuple t c =
    rw (c.in-Tuple-Tuple.is-0, c.in-Tuple-Tuple.is-1)
    (c.parts_fit.ensures
    ∙ (λ k. list_all (part_fits (datum_fits (mode_of (c.get-in-Tuple-Tuple.ensures k)))) (sym (part_list-parts_of c.in-Tuple-Tuple.t) k))
    ∙ ap (λ m. datum_fits m (tuple_of c.in-Tuple-Tuple.t)) (sym (of_tuple c.in-Tuple-Tuple.m)))

pub value_fits-returns-in-Set-Set : goal.value_fits-returns-in-Set-Set
value_fits-returns-in-Set-Set t c =
    let e : datum_fits (mode_of c.args.mode.now) (set_of []) ≡ true = rw c.in-Set-Set.is-0 (set_empty c.in-Set-Set.field-0-0 c.in-Set-Set.field-1-0) in
    c.members_fit.ensures.walked ∙ by_members (mode_of c.args.mode.now) e (Members c.in-Set-Set.s) c.members_fit.ensures.rising
    ∙ ap (λ v. datum_fits (mode_of c.args.mode.now) (datum v)) (sym c.in-Set-Set.is-1)

pub value_fits-returns-in-Smap-Set : goal.value_fits-returns-in-Smap-Set
value_fits-returns-in-Smap-Set t c =
    let e : datum_fits (mode_of c.args.mode.now) (set_of []) ≡ true = rw c.in-Smap-Set.is-0 (smap_empty c.in-Smap-Set.field-0-0 c.in-Smap-Set.field-1-0 c.in-Smap-Set.field-2-0) in
    c.members_fit-in-Smap-Set.ensures.walked ∙ by_members (mode_of c.args.mode.now) e (Members c.in-Smap-Set.s) c.members_fit-in-Smap-Set.ensures.rising
    ∙ ap (λ v. datum_fits (mode_of c.args.mode.now) (datum v)) (sym c.in-Smap-Set.is-1)

pub value_fits-returns-in-Mmap-Set : goal.value_fits-returns-in-Mmap-Set
value_fits-returns-in-Mmap-Set t c =
    let e : datum_fits (mode_of c.args.mode.now) (set_of []) ≡ true = rw c.in-Mmap-Set.is-0 (mmap_empty c.in-Mmap-Set.field-0-0 c.in-Mmap-Set.field-1-0 c.in-Mmap-Set.field-2-0) in
    c.members_fit-in-Mmap-Set.ensures.walked ∙ by_members (mode_of c.args.mode.now) e (Members c.in-Mmap-Set.s) c.members_fit-in-Mmap-Set.ensures.rising
    ∙ ap (λ v. datum_fits (mode_of c.args.mode.now) (datum v)) (sym c.in-Mmap-Set.is-1)

pub members_fit-returns-then-not-member_fits-clause-rising : goal.members_fit-returns-then-not-member_fits-clause-rising
members_fit-returns-then-not-member_fits-clause-rising t c = rising_members (Members c.args.s.now) c.learn.ensures

pub members_fit-returns-clause-rising : goal.members_fit-returns-clause-rising
members_fit-returns-clause-rising t c = rising_members (Members c.args.s.now) c.learn.ensures

pub parts_fit-returns-then-not-part_fits : goal.parts_fit-returns-then-not-part_fits
parts_fit-returns-then-not-part_fits t c =
    sym (stops (datum_fits (mode_of c.args.mode.now)) c.args.t.now c.loop-i.i (sym c.part_fits.ensures ∙ c.if-not-part_fits.true)) ∙ c.loop-i.invariant
