use Rattle.std.proofs.Common.{◌≡◌, ap, sym, subst, ◌∙◌, ◌<◌, arith, Some, slice_set}
use Rattle.std.specs.Option.{unwrap_or}
use Rattle.std.proofs.lemmas.Option.{IfSome_then, none-some, slice_get_within}
use Rattle.std.proofs.lemmas.Result.{IfOk-weaker}
use Rattle.setl_value.specs.code.Body.{Members}
use Rattle.setl_value.specs.code.Changing.{Grows}
use Rattle.setl_value.specs.Datum.{depth}
use Rattle.setl_value.specs.code.DatumOf.{datum}
use Rattle.setl_value.specs.Order.{IsRising}
use Rattle.setl_value.specs.Pairs.{pair, pair_parts}
use Rattle.setl_value.specs.code.Places.{rank}
use Rattle.setl_map.proofs.Bounds.{rising_from_set}
use Rattle.setl_map.proofs.Changing.{none_then, one_image, pair_same}
use Rattle.setl_map.proofs.Lists.{member_depth}
use Rattle.setl_map.proofs.MapResults.{rising_put}
use Rattle.setl_map.proofs.PairFacts.{all_pairs}
use Rattle.setl_map.proofs.maps.change_from.Goals as goal

pub change_second-requires-clause-there : goal.change_second-requires-clause-there
change_second-requires-clause-there g c =
    let ds = Members c.args.f.now in
    let x = datum c.args.x.now in
    let i = rank c.args.f.now c.args.from in
    let d = c.requires.there.0 in
    let there = c.requires.there.1 in
    let one = one_image x d ds i (rising_from_set ds c.learn.ensures) (all_pairs ds c.requires.map) c.requires.from there in
    slice_get_within ds i (pair x d) one.0

pub change_second-requires-clause-grows : goal.change_second-requires-clause-grows
change_second-requires-clause-grows g c = λ m h a y w.
    let ds = Members c.args.f.now in
    let x = datum c.args.x.now in
    let i = rank c.args.f.now c.args.from in
    let d = c.requires.there.0 in
    let there = c.requires.there.1 in
    let one = one_image x d ds i (rising_from_set ds c.learn.ensures) (all_pairs ds c.requires.map) c.requires.from there in
    let is : m ≡ pair x d = ap (λ o. unwrap_or o m) (sym h ∙ one.0) in
    let same = pair_same x d a y (sym is ∙ w) in
    let size : depth d < 499 = omega (arith, member_depth ds i (pair x d) one.0, c.learn.ensures.1) in
    subst (λ z. Grows g.F.FnOnce c.args.change z 499) same.1 (c.requires.grows d there size)

pub change_second-requires-clause-rising : goal.change_second-requires-clause-rising
change_second-requires-clause-rising g c = λ m h r n w.
    let ds = Members c.args.f.now in
    let x = datum c.args.x.now in
    let i = rank c.args.f.now c.args.from in
    let d = c.requires.there.0 in
    let there = c.requires.there.1 in
    let rising = rising_from_set ds c.learn.ensures in
    let one = one_image x d ds i rising (all_pairs ds c.requires.map) c.requires.from there in
    let is : m ≡ pair x d = ap (λ o. unwrap_or o m) (sym h ∙ one.0) in
    let first = (pair_same x d w.first w.old (sym is ∙ w.was)).0 in
    let new : n ≡ pair x w.new = w.is ∙ ap (λ z. pair z w.new) (sym first) in
    subst IsRising (sym (ap (slice_set ds i) new ∙ one.1 w.new)) (rising_put c.operations_have_their_members.ensures.insert x w.new ds rising)

pub returns-clause-changed : goal.returns-clause-changed
returns-clause-changed g c =
    let ds = Members c.args.f.now in
    let x = datum c.args.x.now in
    let i = rank c.args.f.now c.args.from in
    let d = c.requires.there.0 in
    let there = c.requires.there.1 in
    let one = one_image x d ds i (rising_from_set ds c.learn.ensures) (all_pairs ds c.requires.map) c.requires.from there in
    IfOk-weaker c.change_second.result _ _ (λ o h. IfSome_then o h (λ r k.
    let w = k.3 in
    let is : k.0 ≡ pair x d = ap (λ o. unwrap_or o k.0) (sym k.2 ∙ one.0) in
    let same = pair_same x d w.first w.old (sym is ∙ w.was) in
    let new : k.1 ≡ pair x w.new = w.is ∙ ap (λ z. pair z w.new) (sym same.0) in
    record {
      old = w.old;
      new = w.new;
      map = c.requires.map;
      there = there ∙ ap Some same.1;
      left = w.left;
      written = k.4 ∙ ap (slice_set ds i) new ∙ one.1 w.new;
      same = λ e. k.5 (new ∙ ap (pair x) (e ∙ sym same.1) ∙ sym is);
    })) c.change_second.ensures.changed

pub returns-clause-called : goal.returns-clause-called
returns-clause-called g c =
    let ds = Members c.args.f.now in
    let x = datum c.args.x.now in
    let i = rank c.args.f.now c.args.from in
    let d = c.requires.there.0 in
    let there = c.requires.there.1 in
    let one = one_image x d ds i (rising_from_set ds c.learn.ensures) (all_pairs ds c.requires.map) c.requires.from there in
    IfOk-weaker c.change_second.result _ _ (λ o h. none_then o (λ n.
    let is : n.0 ≡ pair x d = ap (λ o. unwrap_or o n.0) (sym n.1 ∙ one.0) in
    absurd (none-some (x, d) (sym n.2 ∙ ap pair_parts is))) h) c.change_second.ensures.nothing
