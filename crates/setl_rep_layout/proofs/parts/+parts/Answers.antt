use Rattle.std.proofs.Common.{◌≡◌, ◌∙◌, ◌++◌, codes, ap, sym, subst, arith}
use Rattle.std.specs.Prelude.{Some}
use Rattle.setl_value.specs.code.DatumOf.{datum}
use Rattle.setl_modes.specs.Modes.{mode_of}
use Rattle.setl_modes_dump.specs.Dump.{listed}
use Rattle.setl_base.specs.Base.{IsBase}
use Rattle.setl_rep_bases.specs.BaseId.{main}
use Rattle.setl_rep_building.specs.HasForm.{content_mode, HasForm}
use Rattle.setl_rep_forms.specs.Form.{plain, element, handles}
use Rattle.setl_rep_forms.specs.FormOf as of
use Rattle.setl_rep_forms.specs.FormOf.{form}
use Rattle.setl_rep_forms.specs.Stands.{stands, IsOver}
use Rattle.setl_rep_maps.specs.code.Lent.{lent_form}
use Rattle.setl_rep_maps.specs.Contents.{content_of}
use Rattle.setl_rep_layout.specs.Laid.{AreContentsLaid}
use Rattle.setl_rep_layout.specs.Texts.{after_blanks, entry_texts, handle_texts, held_text}
use Rattle.setl_rep_layout.proofs.Modes.{contents_laid_in, of_element, of_handles, of_map_form, of_plain}
use Rattle.setl_rep_layout.proofs.Tables.{content_size}
use Rattle.setl_rep_layout.proofs.Words.{on_ok, two_parts}
use Rattle.setl_rep_layout.proofs.parts.+parts.Goals as goal

pub push_content-push_part-requires : goal.push_content-push_part-requires
push_content-push_part-requires t c =
    let f = form c.in-Some.c.now in
    let e : content_of (form c.args.map.now) c.args.n ≡ Some f = sym c.content.ensures ∙ ap lent_form c.in-Some.is in
    (omega (arith, content_size (form c.args.map.now) c.args.n f e), c.requires c.args.n f e)

pub push_map-push_entries-requires : goal.push_map-push_entries-requires
push_map-push_entries-requires t c =
    (omega arith, subst (λ m. AreContentsLaid c.args.bases.now m (form c.args.map.now)) (sym c.content_mode.ensures) (contents_laid_in c.args.bases.now (mode_of c.args.mode.now) (form c.args.map.now) c.requires.table c.requires.laid))

pub push_map-returns : goal.push_map-returns
push_map-returns t c =
    let bs = c.args.bases.now in
    let m = mode_of c.args.mode.now in
    let f = form c.args.map.now in
    let list = c.in_ok-list.list.items in
    let is : after_blanks (listed (entry_texts bs (mode_of c.content_mode.result.now) f c.as_slice.result.now)) ≡ after_blanks (listed (entry_texts bs (content_mode m) f list)) =
    (λ i. after_blanks (listed (entry_texts bs (c.content_mode.ensures i) f (c.as_slice.ensures.value i))))
    in
    on_ok c.push_entries.result
    (λ e. two_parts _ _ _ _ (after_blanks (listed (entry_texts bs (content_mode m) f list))) _
    c.in_ok-push_word.ensures
    (of_map_form c.contents_stand_for_images.ensures.images bs m f list c.requires.table c.requires.laid.form c.requires.laid.over c.learn.ensures c.learn_base.ensures c.in_ok-list.ensures)
    (e ∙ ap (λ l. c.push_word.new.into.items ++ l) is))
    c.push_entries.ensures

pub push_part-returns-in-Plain : goal.push_part-returns-in-Plain
push_part-returns-in-Plain t c =
    let bs = c.args.bases.now in
    let m = mode_of c.args.mode.now in
    let v = c.in-Plain.v in
    let e : form c.args.h.now ≡ plain (datum v) = ap form c.in-Plain.is ∙ of.of_plain v in
    let text = of_plain bs m (datum v) (subst (HasForm main m) e c.requires.form) c.requires.attributed ∙ ap (λ f. held_text bs m (stands bs f)) (sym e) in
    on_ok c.push_plain.result (λ p. p ∙ ap (λ l. c.args.into.now.items ++ l) text) c.push_plain.ensures

pub push_part-returns-in-Elt : goal.push_part-returns-in-Elt
push_part-returns-in-Elt t c =
    let bs = c.args.bases.now in
    let m = mode_of c.args.mode.now in
    let b = c.in-Elt.b in
    let x = c.in-Elt.e in
    let e : form c.args.h.now ≡ element b x = ap form c.in-Elt.is ∙ of.of_element b x in
    let text = of_element bs m b x (subst IsBase c.at.ensures.base c.learn.ensures) (subst (HasForm main m) e c.requires.form) (subst (IsOver bs) e c.requires.over) ∙ ap (λ f. held_text bs m (stands bs f)) (sym e) in
    on_ok c.push_element.result (λ p. p ∙ ap (λ l. c.args.into.now.items ++ l) text) c.push_element.ensures

pub push_part-returns-in-EltTuple : goal.push_part-returns-in-EltTuple
push_part-returns-in-EltTuple t c =
    let bs = c.args.bases.now in
    let m = mode_of c.args.mode.now in
    let b = c.in-EltTuple.b in
    let es = c.in-EltTuple.list in
    let e : form c.args.h.now ≡ handles b es.value.items = ap form c.in-EltTuple.is ∙ of.of_handles b es in
    let is : c.as_slice.result.now ≡ es.value.items = c.as_slice.ensures.value ∙ ap (λ v. v.items) c.deref.ensures in
    let text = ap (λ l. codes "tuple" ++ after_blanks (listed (handle_texts l))) is
    ∙ of_handles bs m b es.value.items (subst IsBase c.at-in-EltTuple.ensures.base c.learn-in-EltTuple.ensures) (subst (HasForm main m) e c.requires.form) (subst (IsOver bs) e c.requires.over)
    ∙ ap (λ f. held_text bs m (stands bs f)) (sym e)
    in
    on_ok c.push_handles.result (λ p. p ∙ ap (λ l. c.args.into.now.items ++ l) text) c.push_handles.ensures
