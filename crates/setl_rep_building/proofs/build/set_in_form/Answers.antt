use Rattle.std.proofs.Common.{◌∙◌, ap, sym, subst}
use Rattle.std.specs.Option.{option_map}
use Rattle.setl_value.specs.code.Body.{Members}
use Rattle.setl_modes.specs.Modes.{mode_of}
use Rattle.setl_rep_bases.specs.Bases.{base_at, named}
use Rattle.setl_rep_based.specs.Found.{AreFound}
use Rattle.setl_rep_building.specs.Contents.{place}
use Rattle.setl_rep_building.proofs.Finding.{found_members, place_on}
use Rattle.setl_rep_building.proofs.build.set_in_form.Goals as goal

pub remote_set-requires : goal.remote_set-requires
remote_set-requires c =
    let bs = c.args.bases.now in
    let on = place_on c.args.f (mode_of c.args.m.now) _ c.in-Some-Remote-default.b (sym c.place_of.ensures ∙ ap (option_map place) c.in-Some-Remote-default.is) in
    subst (λ b. AreFound b (Members c.args.s.now)) (sym (c.at.ensures.base ∙ ap (base_at bs) c.named-i.ensures))
    (found_members bs (named bs c.args.instance) c.args.f (mode_of c.args.m.now) c.in-Some-Remote-default.b (Members c.args.s.now) on c.requires.found)

pub sparse_set-requires : goal.sparse_set-requires
sparse_set-requires c =
    let bs = c.args.bases.now in
    let on = place_on c.args.f (mode_of c.args.m.now) _ c.in-Some-Sparse-default.b (sym c.place_of.ensures ∙ ap (option_map place) c.in-Some-Sparse-default.is) in
    subst (λ b. AreFound b (Members c.args.s.now)) (sym (c.at-in-Some-Sparse-default.ensures.base ∙ ap (base_at bs) c.named-i-in-Some-Sparse-default.ensures))
    (found_members bs (named bs c.args.instance) c.args.f (mode_of c.args.m.now) c.in-Some-Sparse-default.b (Members c.args.s.now) on c.requires.found)
