use Rattle.std.proofs.Common.{◌∙◌, sym, subst, eqb-true}
use Rattle.std.proofs.lemmas.List.{nil_from_length}
use Rattle.std.proofs.lemmas.Result.{on_ok_weaker}
use Rattle.setl_value.specs.code.DatumOf.{datum}
use Rattle.setl_modes.specs.Modes.{mode_of}
use Rattle.setl_rep_entering.specs.Entering.{AreLengthened}
use Rattle.setl_rep_entering.specs.code.Finding.{place_cmp}
use Rattle.setl_rep_entering.proofs.Appended.{are_lengthened, places_there, places_marked, values_rise}
use Rattle.setl_rep_entering.proofs.Lengthened.{none_new_is_found, members_lengthen_nothing}
use Rattle.setl_rep_entering.proofs.Sorting.{goes_by_value}
use Rattle.setl_rep_entering.proofs.enter.enter_all.Goals as goal

pub enter_or_undo-requires-clause-there : goal.enter_or_undo-requires-clause-there
enter_or_undo-requires-clause-there c =
    places_there c.rising_lists_agree.ensures c.tests_are_exact.ensures.membership c.operations_have_their_members.ensures.gather (mode_of c.args.mode.now) (datum c.args.v.now) c.args.instance c.args.bases.now c.in_ok-places.places.items
    c.in_ok-places.ensures.found c.places_are_named.ensures c.instances_are_read.ensures.names c.requires.there

pub enter_or_undo-requires-clause-marked : goal.enter_or_undo-requires-clause-marked
enter_or_undo-requires-clause-marked c =
    λ i h. c.in_ok-marks.ensures.all i
    ∙ places_marked c.rising_lists_agree.ensures c.tests_are_exact.ensures.membership c.operations_have_their_members.ensures.gather (mode_of c.args.mode.now) (datum c.args.v.now) c.args.instance c.args.bases.now c.in_ok-places.places.items
    c.in_ok-places.ensures.found c.places_are_named.ensures i h

pub enter_or_undo-requires-clause-marks : goal.enter_or_undo-requires-clause-marks
enter_or_undo-requires-clause-marks c = c.in_ok-marks.ensures.marks

pub returns-clause-lengthened : goal.returns-clause-lengthened
returns-clause-lengthened c =
    let bs = c.args.bases.now in
    let n = c.args.instance in
    let m = mode_of c.args.mode.now in
    let d = datum c.args.v.now in
    let ps = c.in_ok-places.places.items in
    let agree = c.rising_lists_agree.ensures in
    let tests = c.tests_are_exact.ensures.membership in
    let gathers = c.operations_have_their_members.ensures.gather in
    let put = c.instances_are_read.ensures.put in
    let exact = c.instances_are_read.ensures.names in
    let found = c.in_ok-places.ensures.found in
    on_ok_weaker c.enter_or_undo.result
    (λ e. subst (AreLengthened m d n bs) (sym e) (are_lengthened agree tests gathers m d n bs ps found put exact (λ i. values_rise exact place_cmp goes_by_value i ps c.in_ok-places.ensures.rising)
    (places_there agree tests gathers m d n bs ps found c.places_are_named.ensures exact c.requires.there)))
    c.enter_or_undo.ensures.entered

pub returns-then-is_empty-clause-lengthened : goal.returns-then-is_empty-clause-lengthened
returns-then-is_empty-clause-lengthened c =
    let bs = c.args.bases.now in
    let n = c.args.instance in
    let m = mode_of c.args.mode.now in
    let d = datum c.args.v.now in
    let ps = c.in_ok-places.places in
    let exact = c.instances_are_read.ensures.names in
    members_lengthen_nothing c.tests_are_exact.ensures.membership c.operations_have_their_members.ensures.gather exact m d n bs
    (none_new_is_found exact m d n bs ps.items c.in_ok-places.ensures.found (nil_from_length ps.items (sym ps.ok.0 ∙ eqb-true ps.len 0 (sym c.if-is_empty.ensures))))
