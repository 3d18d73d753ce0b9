use Rattle.std.proofs.Common.{◌≡◌, ◌∷◌, ◌∙◌, [], false, drop, ap, sym}
use Rattle.setl_value.specs.code.Body.{Members}
use Rattle.setl_value.specs.code.DatumOf.{datum, lent}
use Rattle.setl_value.specs.code.Places.{rank}
use Rattle.setl_map.specs.code.Points.{begins, is_at, part_at}
use Rattle.setl_map.proofs.Bounds.{rising_from_set}
use Rattle.setl_map.proofs.Only.{only_leading, image_at_point, not_first, two_begin, one_begins}
use Rattle.setl_map.proofs.PairFacts.{all_pairs}
use Rattle.setl_map.proofs.pairs.image_from.Goals as goal

pub returns-in_default : goal.returns-in_default
returns-in_default c =
    let ds = Members c.args.f.now in
    let x = datum c.args.x.now in
    let i = rank c.args.f.now c.args.from in
    let e = image_at_point x ds i (rising_from_set ds c.learn.ensures) (all_pairs ds c.requires.map) c.requires.from in
    let none : drop i ds ≡ [] = sym c.members_from-rest.ensures ∙ c.in_default.ensures.steps.0 in
    sym (e ∙ ap (only_leading x) none)

pub returns-in_err-y : goal.returns-in_err-y
returns-in_err-y c =
    let ds = Members c.args.f.now in
    let x = datum c.args.x.now in
    let i = rank c.args.f.now c.args.from in
    let d = datum c.in-Some.first.now in
    let rest = c.next.new.self in
    let e = image_at_point x ds i (rising_from_set ds c.learn.ensures) (all_pairs ds c.requires.map) c.requires.from in
    let whole : drop i ds ≡ d ∷ rest = cc c.in-Some.ensures.steps in
    let read = sym (ap lent c.in_err-y.was) ∙ c.image_at.ensures in
    ap lent c.from_residual.ensures ∙ not_first (is_at x d) (begins x rest) (part_at false d) read ∙ sym (e ∙ ap (only_leading x) whole)

pub returns-then-begins : goal.returns-then-begins
returns-then-begins c =
    let ds = Members c.args.f.now in
    let x = datum c.args.x.now in
    let i = rank c.args.f.now c.args.from in
    let d = datum c.in-Some.first.now in
    let rest = c.next.new.self in
    let e = image_at_point x ds i (rising_from_set ds c.learn.ensures) (all_pairs ds c.requires.map) c.requires.from in
    let whole : drop i ds ≡ d ∷ rest = cc c.in-Some.ensures.steps in
    two_begin (is_at x d) (begins x rest) (part_at false d) (sym c.begins.ensures ∙ c.if-begins.true) ∙ sym (e ∙ ap (only_leading x) whole)

pub returns-else-begins : goal.returns-else-begins
returns-else-begins c =
    let ds = Members c.args.f.now in
    let x = datum c.args.x.now in
    let i = rank c.args.f.now c.args.from in
    let d = datum c.in-Some.first.now in
    let rest = c.next.new.self in
    let e = image_at_point x ds i (rising_from_set ds c.learn.ensures) (all_pairs ds c.requires.map) c.requires.from in
    let whole : drop i ds ≡ d ∷ rest = cc c.in-Some.ensures.steps in
    let read = sym (ap lent c.in_ok-y.was) ∙ c.image_at.ensures in
    one_begins (is_at x d) (begins x rest) (part_at false d) (datum c.in_ok-y.y.now) (sym c.begins.ensures ∙ c.if-begins.false) read ∙ sym (e ∙ ap (only_leading x) whole)
