use Rattle.std.proofs.Common.{◌≡◌, ◌∙◌, ◌++◌, true, ap, subst, sym}
use Rattle.setl_modes.specs.Modes.{mode_of}
use Rattle.setl_modes_dump.specs.Dump.{listed}
use Rattle.setl_value.specs.code.Body.{Members}
use Rattle.setl_value.specs.code.DatumOf.{datum}
use Rattle.setl_rep_layout.specs.Found.{keys, pairs_in, AreNumbersOf}
use Rattle.setl_rep_layout.specs.Members.{values_of}
use Rattle.setl_rep_layout.specs.Texts.{after_blanks}
use Rattle.setl_rep_layout.specs.Values.{point_texts, table_text}
use Rattle.setl_rep_layout.proofs.ByModes.{multi_text_is, of_mmap, of_smap, of_tuple, single_text_is, table_by, tuple_text_is}
use Rattle.setl_rep_layout.proofs.Words.{on_ok, two_parts}
use Rattle.setl_rep_layout.proofs.values.+values.Goals as goal

pub push_map-returns : goal.push_map-returns
push_map-returns t c =
    let bs = c.args.bases.now in
    let m = mode_of c.args.mode.now in
    let b = c.args.base.now in
    let f = Members c.in-Set.f in
    let list = c.in_ok-list.list.items in
    let numbers = subst (λ g. AreNumbersOf b c.in_ok-numbers.numbers (keys true g)) c.in_ok-f.ensures c.in_ok-numbers.ensures in
    let text = table_by bs m f b c.in_ok-numbers.numbers list numbers c.in_ok-list.ensures ∙ ap (λ v. table_text bs m (values_of b) (datum v)) (sym c.in-Set.is) in
    let is : after_blanks (listed (point_texts bs m (Members c.in_ok-f.f) b c.as_slice.result.now)) ≡ after_blanks (listed (point_texts bs m (pairs_in f) b list)) =
    (λ i. after_blanks (listed (point_texts bs m (c.in_ok-f.ensures i) b (c.as_slice.ensures.value i))))
    in
    on_ok c.push_points.result
    (λ e. two_parts _ _ _ _ (after_blanks (listed (point_texts bs m (pairs_in f) b list))) _ c.in_ok-push_word.ensures text (e ∙ ap (λ l. c.push_word.new.into.items ++ l) is))
    c.push_points.ensures

pub push_on-returns-in-Tuple : goal.push_on-returns-in-Tuple
push_on-returns-in-Tuple t c =
    let k = c.in-Tuple.field-0 in
    let text = tuple_text_is c.args.bases.now (mode_of c.args.mode.now) (mode_of k) c.args.base.now (datum c.args.v.now) (ap mode_of c.in-Tuple.is ∙ of_tuple k) c.requires in
    on_ok c.push_tuple.result (λ e. e ∙ ap (λ l. c.args.into.now.items ++ l) text) c.push_tuple.ensures

pub push_on-returns-in-Smap : goal.push_on-returns-in-Smap
push_on-returns-in-Smap t c =
    let a = c.in-Smap.field-0 in
    let k = c.in-Smap.field-1 in
    let r = c.in-Smap.field-2 in
    let text = single_text_is c.args.bases.now (mode_of c.args.mode.now) a (mode_of k) (mode_of r) c.args.base.now (datum c.args.v.now) (ap mode_of c.in-Smap.is ∙ of_smap a k r) c.requires in
    on_ok c.push_map.result (λ e. e ∙ ap (λ l. c.args.into.now.items ++ l) text) c.push_map.ensures

pub push_on-returns-in-Mmap : goal.push_on-returns-in-Mmap
push_on-returns-in-Mmap t c =
    let a = c.in-Mmap.field-0 in
    let k = c.in-Mmap.field-1 in
    let s = c.in-Mmap.field-2 in
    let text = multi_text_is c.args.bases.now (mode_of c.args.mode.now) a (mode_of k) (mode_of s) c.args.base.now (datum c.args.v.now) (ap mode_of c.in-Mmap.is ∙ of_mmap a k s) c.requires in
    on_ok c.push_map-in-Mmap.result (λ e. e ∙ ap (λ l. c.args.into.now.items ++ l) text) c.push_map-in-Mmap.ensures
