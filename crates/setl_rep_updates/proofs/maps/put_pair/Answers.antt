use Rattle.std.proofs.lemmas.Result.{on_ok_weaker}
use Rattle.setl_value.specs.code.DatumOf.{datum}
use Rattle.setl_modes.specs.Modes.{mode_of}
use Rattle.setl_rep_bases.specs.Bases.{named}
use Rattle.setl_rep_forms.specs.FormOf.{form}
use Rattle.setl_rep_updates.proofs.Imaging.{base_of_points, pair_is_entered, point_is_found}
use Rattle.setl_rep_updates.proofs.maps.put_pair.Goals as goal

pub put_image-requires-clause-point : goal.put_image-requires-clause-point
put_image-requires-clause-point c =
    let m = mode_of c.args.mode.now in
    let a = c.requires.mode.0 in
    let d = mode_of c.args.d.now in
    let r = mode_of c.args.r.now in
    let x = datum c.args.x.now in
    let y = datum c.args.y.now in
    let n = c.args.instance in
    let bs = c.args.bases.now in
    point_is_found c.bases_are_lengthened.ensures.names c.places_are_members.ensures.found m a d r x y n bs bs c.args.b c.requires.mode.1
    (base_of_points (named bs n) m a d r (form c.args.f.now) c.args.b c.requires.table.0 c.requires.mode.1 c.requires.table.1 c.requires.held.form) c.requires.held.there
    (pair_is_entered c.places_are_members.ensures.already m a d r n bs x y c.requires.mode.1 (c.in_ok-are_entered.ensures.0 c.if-branch.true) (c.in_ok-are_entered-2.ensures.0 c.if-branch-2.true))

pub returns-then-branch-2-clause-lengthened : goal.returns-then-branch-2-clause-lengthened
returns-then-branch-2-clause-lengthened c =
    on_ok_weaker c.put_image.result
    (λ p. pair_is_entered c.places_are_members.ensures.already (mode_of c.args.mode.now) c.requires.mode.0 (mode_of c.args.d.now) (mode_of c.args.r.now) c.args.instance c.args.bases.now (datum c.args.x.now) (datum c.args.y.now) c.requires.mode.1
    (c.in_ok-are_entered.ensures.0 c.if-branch.true) (c.in_ok-are_entered-2.ensures.0 c.if-branch-2.true))
    c.put_image.ensures.put
