use Rattle.std.proofs.lemmas.Result.{on_ok_weaker}
use Rattle.setl_value.specs.code.DatumOf.{datum}
use Rattle.setl_modes.specs.Modes.{mode_of}
use Rattle.setl_rep_forms.specs.FormOf.{form}
use Rattle.setl_rep_updates.proofs.Adding.{added_is_entered, added_point_is_found, contents_take}
use Rattle.setl_rep_updates.proofs.images.include_pair.Goals as goal

pub add_image-requires-clause-point : goal.add_image-requires-clause-point
add_image-requires-clause-point c =
    let m = mode_of c.args.mode.now in
    let s = mode_of c.args.s.now in
    let a = c.requires.mode.0 in
    let g = c.requires.images.0 in
    let d = mode_of c.args.d.now in
    let k = mode_of c.args.k.now in
    let x = datum c.args.x.now in
    let y = datum c.args.y.now in
    let n = c.args.instance in
    let bs = c.args.bases.now in
    added_point_is_found c.bases_are_lengthened.ensures.names c.places_are_members.ensures.found a g d k x y n bs bs m s c.requires.mode.1 c.requires.images.1 c.requires.held.there
    (added_is_entered c.places_are_members.ensures.already m s a g d k n bs x y c.requires.mode.1 c.requires.images.1 (c.in_ok-are_entered.ensures.0 c.if-branch.true) (c.in_ok-are_entered-2.ensures.0 c.if-branch-2.true))
    (form c.args.f.now) c.args.b c.requires.table.0 c.requires.table.1 c.requires.held.form

pub add_image-requires-clause-images : goal.add_image-requires-clause-images
add_image-requires-clause-images c = λ q w is.
    let m = mode_of c.args.mode.now in
    let s = mode_of c.args.s.now in
    let a = c.requires.mode.0 in
    let g = c.requires.images.0 in
    let d = mode_of c.args.d.now in
    let k = mode_of c.args.k.now in
    let x = datum c.args.x.now in
    let y = datum c.args.y.now in
    let n = c.args.instance in
    let bs = c.args.bases.now in
    contents_take c.bases_are_lengthened.ensures.names c.places_are_members.ensures.found a g d k x y n bs bs m s c.requires.mode.1 c.requires.images.1 c.requires.held.there
    (added_is_entered c.places_are_members.ensures.already m s a g d k n bs x y c.requires.mode.1 c.requires.images.1 (c.in_ok-are_entered.ensures.0 c.if-branch.true) (c.in_ok-are_entered-2.ensures.0 c.if-branch-2.true))
    (form c.args.f.now) q w c.requires.held.form c.requires.held.over is

pub returns-then-branch-2-clause-lengthened : goal.returns-then-branch-2-clause-lengthened
returns-then-branch-2-clause-lengthened c =
    on_ok_weaker c.add_image.result
    (λ p. added_is_entered c.places_are_members.ensures.already (mode_of c.args.mode.now) (mode_of c.args.s.now) c.requires.mode.0 c.requires.images.0 (mode_of c.args.d.now) (mode_of c.args.k.now) c.args.instance c.args.bases.now
    (datum c.args.x.now) (datum c.args.y.now) c.requires.mode.1 c.requires.images.1 (c.in_ok-are_entered.ensures.0 c.if-branch.true) (c.in_ok-are_entered-2.ensures.0 c.if-branch-2.true))
    c.add_image.ensures.added
