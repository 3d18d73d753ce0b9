use Rattle.std.proofs.Common.{◌∙◌, length, sym, ap, subst, eq-eqb, eqb-true}
use Rattle.std.proofs.lemmas.List.{nil_from_length}
use Rattle.setl_value.specs.code.DatumOf.{datum}
use Rattle.setl_modes.specs.Modes.{mode_of}
use Rattle.setl_modes_places.specs.Places.{elements_at}
use Rattle.setl_rep_entering.specs.code.Finding.{Gains}
use Rattle.setl_rep_entering.proofs.Lengthened.{none_new_is_found, found_is_none_new}
use Rattle.setl_rep_entering.proofs.places.are_entered.Goals as goal

pub returns : goal.returns
returns c =
    let bs = c.args.bases.now in
    let n = c.args.instance in
    let m = mode_of c.args.mode.now in
    let d = datum c.args.v.now in
    let ps = c.find_places.new.found in
    let exact = c.instances_are_read.ensures.names in
    let gains = subst (λ old. Gains bs n (λ b. elements_at b m d) old ps.items) c.new-found.ensures.items c.in_ok-find_places.ensures in (
      λ e. none_new_is_found exact m d n bs ps.items gains (nil_from_length ps.items (sym ps.ok.0 ∙ eqb-true ps.len 0 (sym c.is_empty.ensures ∙ e))),
      λ all. c.is_empty.ensures ∙ eq-eqb ps.len 0 (ps.ok.0 ∙ ap length (found_is_none_new exact m d n bs ps.items gains all)),
    )
