use Rattle.std.proofs.Common.{◌∙◌, ap, sym, subst}
use Rattle.setl_value.specs.Datum.{part_list-parts_of}
use Rattle.setl_value.specs.WellFormed.{IsTrimmed}
use Rattle.setl_modes.specs.Modes.{mode_of}
use Rattle.setl_rep_bases.specs.Bases.{base_at, named, IsThere}
use Rattle.setl_rep_forms.specs.FormOf.{of_handles}
use Rattle.setl_rep_forms.specs.Stands.{IsOver}
use Rattle.setl_rep_based.specs.Found.{ArePartsFound}
use Rattle.setl_rep_building.proofs.Finding.{base_there, found_parts, handles_over}
use Rattle.setl_rep_building.proofs.build.tuple_in_form.Goals as goal

pub handles-requires : goal.handles-requires
handles-requires c =
    let bs = c.args.bases.now in
    subst (λ b. ArePartsFound b c.args.t.now) (sym (c.at.ensures.base ∙ ap (base_at bs) c.named-i.ensures))
    (found_parts bs (named bs c.args.instance) (mode_of c.args.m.now) c.in-Some.b c.args.t.now (sym c.base_of.ensures ∙ c.in-Some.is) c.requires.found)

pub returns-in_ok-new-in-Some-clause-over : goal.returns-in_ok-new-in-Some-clause-over
returns-in_ok-new-in-Some-clause-over c =
    let bs = c.args.bases.now in
    let there : IsThere bs c.named-i.result =
    subst (IsThere bs) (sym c.named-i.ensures) (base_there bs (named bs c.args.instance) (mode_of c.args.m.now) c.in-Some.b (sym c.base_of.ensures ∙ c.in-Some.is) c.requires.there)
    in
    let over = handles_over (base_at bs c.named-i.result) c.at.result.now c.in_ok-list-in-Some.list.items c.in_ok-new-in-Some.field-0.value.items c.args.t.now
    c.at.ensures.base (ap (λ v. v.items) c.in_ok-new-in-Some.ensures.ok) c.in_ok-list-in-Some.ensures.living c.in_ok-list-in-Some.ensures.parts
    (subst (λ ps. IsTrimmed ps) (part_list-parts_of c.args.t.now) c.learn.ensures.0.1)
    in
    subst (λ f. IsOver bs f) (sym (of_handles c.named-i.result c.in_ok-new-in-Some.field-0)) (there, over.0, over.1)
