use Rattle.std.proofs.Common.{◌≡◌, ◌∙◌, ◌<◌, ◌≤◌, ℕ, Some, List, sym, ap, subst, arith, inl, inr}
use Rattle.std.proofs.lemmas.Option.{slice_get-get_or}
use Rattle.std.specs.Prelude.{slice_get}
use Rattle.setl_code.specs.declared.code.Body.{Body}
use Rattle.setl_image.specs.Views.{image_of}
use Rattle.setl_image_sound.specs.SoundImage.{declared_of}
use Rattle.setl_image_sound.proofs.Assembling.{refuse, one_more, all_through, table_of_body}
use Rattle.setl_image_sound.proofs.bodies.all_are_sound.Goals as goal

pub is_part-requires : goal.is_part-requires
is_part-requires c = record {
  calls = c.requires.calls;
  table = table_of_body (declared_of (image_of c.args.image.now)) c.args.bodies.now c.args.image.now.code.bodies c.bodies.n c.index-bodies-n.result c.args.table.now c.requires.bodies
      (slice_get-get_or c.args.bodies.now c.bodies.n c.index-bodies-n.result c.bodies-test.true ∙ ap Some (sym c.index-bodies-n.is)) c.requires.table;
}

pub returns-then-not-branch : goal.returns-then-not-branch
returns-then-not-branch c =
    refuse c.in_ok-is_part.field-0 c.in_ok-is_part.ensures c.if-not-branch.true
    (λ all. all c.bodies.n c.index-bodies-n.result (ap (λ (bs : List Body). slice_get bs c.bodies.n) (sym c.requires.bodies) ∙ slice_get-get_or c.args.bodies.now c.bodies.n c.index-bodies-n.result c.bodies-test.true ∙ ap Some (sym c.index-bodies-n.is)))

pub bodies-preserved : goal.bodies-preserved
bodies-preserved c =
    one_more c.args.image.now.code (declared_of (image_of c.args.image.now)) c.args.bodies.now c.bodies.n c.index-bodies-n.result
    (slice_get-get_or c.args.bodies.now c.bodies.n c.index-bodies-n.result c.bodies-test.true ∙ ap Some (sym c.index-bodies-n.is))
    (c.in_ok-is_part.ensures.0 c.if-not-branch.false) c.bodies.invariant

pub returns : goal.returns
returns c = all_through c.args.image.now.code (declared_of (image_of c.args.image.now)) c.args.bodies.now c.bodies.n c.requires.bodies c.bodies-test.false c.bodies.invariant
