use Rattle.std.proofs.Common.{◌≡◌, ◌∙◌, ℕ, Bool, true, List, [], Some, Result, Ok, Err, ap, sym, subst, refl, arith}
use Rattle.std.specs.Option.{IsSome}
use Rattle.std.specs.Result.{IfOk}
use Rattle.std.specs.declared.alloc.AllocError.{AllocError}
use Rattle.setl_value.specs.Order.{IsRising}
use Rattle.setl_set.specs.Laws.{RisingListsAgree, TestsMembership, Gathers}
use Rattle.setl_map.specs.Laws.{ImagesByPairs}
use Rattle.setl_modes.specs.declared.mode.Form.{Form as Attribute}
use Rattle.setl_rep_bases.specs.declared.BaseId.{BaseId}
use Rattle.setl_rep_forms.specs.declared.held.Held.{Held}
use Rattle.setl_rep_tables.specs.Tables.{IsKeyed, MembersOfTables}
use Rattle.setl_rep_building.specs.declared.table.Lying.{Lying}
use Rattle.setl_value.specs.code.Body.{Members}
use Rattle.setl_value.specs.code.DatumOf.{datum}
use Rattle.setl_value.specs.Datum.{Datum, set_of}
use Rattle.setl_value.specs.Pairs.{images}
use Rattle.setl_set.specs.Sets.{has_datum}
use Rattle.setl_map.specs.Maps.{domain_of, image}
use Rattle.setl_modes.specs.Modes.{Mode, SingleMaps, MultiMaps, mode_of}
use Rattle.setl_modes.specs.Fits.{datum_fits}
use Rattle.setl_base.specs.Base.{find}
use Rattle.setl_rep_bases.specs.Bases.{BasesState, base_at, named, IsThere}
use Rattle.setl_rep_forms.specs.FormOf.{form}
use Rattle.setl_rep_forms.specs.Form.{Form, Layout, Entries, table, no_entry}
use Rattle.setl_rep_forms.specs.Stands.{stands, value_at, IsOver}
use Rattle.setl_rep_building.specs.Contents.{entries_in, layout, table_layout, IsContentOf}
use Rattle.setl_rep_building.specs.HasForm.{HasForm, base_of, keeps_sets, table_of}
use Rattle.setl_rep_building.specs.Places.{HasBases, PlacesAreFound}
use Rattle.setl_rep_building.proofs.Facts.{at_number, has_first, ok_more, rising_members}
use Rattle.setl_rep_building.proofs.Heights.{height}
use Rattle.setl_rep_building.proofs.ModeCodes.{of_elmt, of_smap, of_mmap}
use Rattle.setl_rep_building.proofs.Finding.{found_element}
use Rattle.setl_rep_building.proofs.Fitting.{table_mode, fitting_is_map, in_domain, point_found, table_there, has_image, image_pair, image_fits, image_found, images_fit, images_found, to_images, second_bases, single_content, multi_content}
use Rattle.setl_rep_building.proofs.Tabling.{IsTabled, starts, goes_on, table_ends}
use Rattle.setl_rep_building.proofs.build.+building.Goals as goal

-- the form of a table that is done
done : RisingListsAgree → TestsMembership → Gathers → ImagesByPairs → MembersOfTables → (bs : BasesState) (instance : ℕ) (m : Mode) (ly : Lying) (b : ℕ) (ds : List Datum) (es : Entries) (rest : List Datum)
    → rest ≡ [] → IsRising ds → datum_fits m (set_of ds) ≡ true → IsTabled bs (named bs instance) (base_at bs (named bs instance b)) m ds es rest → IsKeyed es
    → table_of m ≡ Some (layout ly, b) → HasBases bs (named bs instance) m
    → (k : Layout) (i : BaseId) (many : Bool) → k ≡ layout ly → i ≡ named bs instance b → many ≡ keeps_sets m → (f : Form) → f ≡ table k i many es
    → IsOver bs f × (stands bs f ≡ Some (set_of ds)) × HasForm (named bs instance) m f
done alike tests gathers by_pairs members bs instance m ly b ds es rest none rising fits h keyed t there k i many p q r f e =
    table_ends alike tests gathers by_pairs members bs (named bs instance) m (layout ly) b ds es rest none rising (fitting_is_map m ds (table_mode m (layout ly, b) t) fits) h keyed t
    (table_there bs (named bs instance) m (layout ly) b t there) k i many p q r f e

single_ok : (bs : BasesState) (name : ℕ → BaseId) (a : Attribute) (d r m : Mode) (ds : List Datum) (x y : Datum) → m ≡ SingleMaps a d r → (o : Result Held AllocError) → image x ds ≡ Some y
    → IfOk o (λ h. stands bs (form h) ≡ Some y) → IfOk o (λ h. IsOver bs (form h)) → IfOk o (λ h. HasForm name r (form h)) → IfOk o (λ h. IsContentOf bs name m ds x (form h))
single_ok bs name a d r m ds x y e (Ok h) i s v f = subst (λ k. IsContentOf bs name k ds x (form h)) (sym e) (single_content bs name a d r ds x y (form h) i s v f)
single_ok bs name a d r m ds x y e (Err z) i s v f = s

multi_ok : (bs : BasesState) (name : ℕ → BaseId) (a : Attribute) (d s m : Mode) (ds : List Datum) (x y : Datum) → m ≡ MultiMaps a d s → (o : Result Held AllocError) → IsRising (images x ds) → has_datum y (images x ds) ≡ true
    → IfOk o (λ h. stands bs (form h) ≡ Some (set_of (images x ds))) → IfOk o (λ h. IsOver bs (form h)) → IfOk o (λ h. HasForm name s (form h)) → IfOk o (λ h. IsContentOf bs name m ds x (form h))
multi_ok bs name a d s m ds x y e (Ok h) r p st v f = subst (λ k. IsContentOf bs name k ds x (form h)) (sym e) (multi_content bs name a d s ds x y (form h) r p st v f)
multi_ok bs name a d s m ds x y e (Err z) r p st v f = st

-- ---- the table

pub table_in_form-points-requires : goal.table_in_form-points-requires
table_in_form-points-requires t c = fitting_is_map (mode_of c.args.mode.now) (Members c.args.s.now) (table_mode (mode_of c.args.mode.now) _ c.requires.table) c.requires.fits

pub table_in_form-loop-x-init : goal.table_in_form-loop-x-init
table_in_form-loop-x-init t c =
    let bs = c.args.bases.now in
    let name = named bs c.args.instance in
    let ds = Members c.args.s.now in
    let tabled = λ (es : Entries) (rest : List Datum). IsTabled bs name (base_at bs (name c.args.b)) (mode_of c.args.mode.now) ds es rest in
    let rest : c.into_iter-x-iterator.result ≡ domain_of ds = cc (c.members-x-items.ensures, c.into_iter-x-iterator.ensures.into_iter_gives, c.in_ok-all.ensures) in
    let empty : entries_in c.in_ok-table.table ≡ no_entry = c.in_ok-table.ensures.empty in (
      subst (λ l. tabled (entries_in c.in_ok-table.table) l) (sym rest) (subst (λ es. tabled es (domain_of ds)) (sym empty) (starts bs name (base_at bs (name c.args.b)) (mode_of c.args.mode.now) ds)),
      c.in_ok-table.ensures.layout,
    )

pub table_in_form-content_in_form-requires : goal.table_in_form-content_in_form-requires
table_in_form-content_in_form-requires t c =
    let x = datum c.in-Some.x.now in (
      omega arith,
      (
        table_mode (mode_of c.args.mode.now) _ c.requires.table,
        (
          c.loop-x.invariant.0.within x (subst (λ l. has_datum x l ≡ true) (sym c.in-Some.ensures.steps) (has_first x c.next.new.self)),
          (c.requires.fits, (c.requires.found, c.requires.there)),
        ),
      ),
    )

pub table_in_form-handle-requires : goal.table_in_form-handle-requires
table_in_form-handle-requires t c =
    let bs = c.args.bases.now in
    let name = named bs c.args.instance in
    let ds = Members c.args.s.now in
    let x = datum c.in-Some.x.now in
    let there = c.loop-x.invariant.0.within x (subst (λ l. has_datum x l ≡ true) (sym c.in-Some.ensures.steps) (has_first x c.next.new.self)) in
    let pair = in_domain c.tests_are_exact.ensures.membership c.operations_have_their_members.ensures.gather x ds there in
    subst (λ b. IsSome (find b x)) (sym (c.at.ensures.base ∙ ap (base_at bs) c.named-i.ensures))
    (point_found bs name (mode_of c.args.mode.now) (layout c.args.lying) c.args.b ds x pair.0 c.requires.table c.requires.found pair.1)

pub table_in_form-loop-x-preserved : goal.table_in_form-loop-x-preserved
table_in_form-loop-x-preserved t c =
    let bs = c.args.bases.now in
    let name = named bs c.args.instance in
    let ds = Members c.args.s.now in
    let x = datum c.in-Some.x.now in
    let b = base_at bs (name c.args.b) in (
      goes_on bs name b (mode_of c.args.mode.now) ds x c.handle.result.block (form c.in_ok-content.content) (entries_in c.loop-x.table) (entries_in c.put.new.self) c.next.new.self
          (subst (λ z. value_at z c.handle.result.block ≡ Some x) (c.at.ensures.base ∙ ap (base_at bs) c.named-i.ensures) (at_number c.at.result.now c.handle.result x c.handle.ensures))
          c.in_ok-content.ensures c.in_ok-put.ensures.put
          (subst (λ l. IsTabled bs name b (mode_of c.args.mode.now) ds (entries_in c.loop-x.table) l) c.in-Some.ensures.steps c.loop-x.invariant.0),
      c.in_ok-put.ensures.layout ∙ c.loop-x.invariant.1,
    )

pub table_in_form-returns-clause-over : goal.table_in_form-returns-clause-over
table_in_form-returns-clause-over t c =
    let bs = c.args.bases.now in
    ok_more c.held.result (λ h. form h ≡ table (table_layout c.loop-x.table) c.named-i.result c.keeps_sets.result (entries_in c.loop-x.table)) (λ h. IsOver bs (form h))
    (λ h e. (done c.rising_lists_agree.ensures c.tests_are_exact.ensures.membership c.operations_have_their_members.ensures.gather c.images_are_by_pairs.ensures c.tables_have_their_pairs.ensures.members
    bs c.args.instance (mode_of c.args.mode.now) c.args.lying c.args.b (Members c.args.s.now) (entries_in c.loop-x.table) c.loop-x.x-iterator
    c.in-None.ensures.steps.0 (rising_members (Members c.args.s.now) c.learn.ensures) c.requires.fits c.loop-x.invariant.0 c.learn-2.ensures c.requires.table c.requires.there
    (table_layout c.loop-x.table) c.named-i.result c.keeps_sets.result c.loop-x.invariant.1 c.named-i.ensures c.keeps_sets.ensures (form h) e).0)
    c.held.ensures

pub table_in_form-returns-clause-stands : goal.table_in_form-returns-clause-stands
table_in_form-returns-clause-stands t c =
    let bs = c.args.bases.now in
    ok_more c.held.result (λ h. form h ≡ table (table_layout c.loop-x.table) c.named-i.result c.keeps_sets.result (entries_in c.loop-x.table)) (λ h. stands bs (form h) ≡ Some (set_of (Members c.args.s.now)))
    (λ h e. (done c.rising_lists_agree.ensures c.tests_are_exact.ensures.membership c.operations_have_their_members.ensures.gather c.images_are_by_pairs.ensures c.tables_have_their_pairs.ensures.members
    bs c.args.instance (mode_of c.args.mode.now) c.args.lying c.args.b (Members c.args.s.now) (entries_in c.loop-x.table) c.loop-x.x-iterator
    c.in-None.ensures.steps.0 (rising_members (Members c.args.s.now) c.learn.ensures) c.requires.fits c.loop-x.invariant.0 c.learn-2.ensures c.requires.table c.requires.there
    (table_layout c.loop-x.table) c.named-i.result c.keeps_sets.result c.loop-x.invariant.1 c.named-i.ensures c.keeps_sets.ensures (form h) e).1)
    c.held.ensures

pub table_in_form-returns-clause-form : goal.table_in_form-returns-clause-form
table_in_form-returns-clause-form t c =
    let bs = c.args.bases.now in
    ok_more c.held.result (λ h. form h ≡ table (table_layout c.loop-x.table) c.named-i.result c.keeps_sets.result (entries_in c.loop-x.table)) (λ h. HasForm (named bs c.args.instance) (mode_of c.args.mode.now) (form h))
    (λ h e. (done c.rising_lists_agree.ensures c.tests_are_exact.ensures.membership c.operations_have_their_members.ensures.gather c.images_are_by_pairs.ensures c.tables_have_their_pairs.ensures.members
    bs c.args.instance (mode_of c.args.mode.now) c.args.lying c.args.b (Members c.args.s.now) (entries_in c.loop-x.table) c.loop-x.x-iterator
    c.in-None.ensures.steps.0 (rising_members (Members c.args.s.now) c.learn.ensures) c.requires.fits c.loop-x.invariant.0 c.learn-2.ensures c.requires.table c.requires.there
    (table_layout c.loop-x.table) c.named-i.result c.keeps_sets.result c.loop-x.invariant.1 c.named-i.ensures c.keeps_sets.ensures (form h) e).2)
    c.held.ensures

-- ---- contents

pub content_in_form-the_image-requires : goal.content_in_form-the_image-requires
content_in_form-the_image-requires t c =
    let ds = Members c.args.s.now in
    let x = datum c.args.x.now in
    let e = ap mode_of c.in-Smap.is ∙ of_smap c.in-Smap.field-0 c.in-Smap.field-1 c.in-Smap.r in
    let pair = in_domain c.tests_are_exact.ensures.membership c.operations_have_their_members.ensures.gather x ds c.requires.point in
    has_image c.in-Smap.field-0 (mode_of c.in-Smap.field-1) (mode_of c.in-Smap.r) ds x pair.0 (subst (λ m. datum_fits m (set_of ds) ≡ true) e c.requires.fits) pair.1

pub content_in_form-in_form-requires : goal.content_in_form-in_form-requires
content_in_form-in_form-requires t c =
    let ds = Members c.args.s.now in
    let x = datum c.args.x.now in
    let y = datum c.in_ok-y-in-Smap.y in
    let bs = c.args.bases.now in
    let name = named bs c.args.instance in
    let a = c.in-Smap.field-0 in
    let d = mode_of c.in-Smap.field-1 in
    let r = mode_of c.in-Smap.r in
    let e = ap mode_of c.in-Smap.is ∙ of_smap c.in-Smap.field-0 c.in-Smap.field-1 c.in-Smap.r in
    let pair = image_pair c.tests_are_exact.ensures.membership c.images_are_by_pairs.ensures x y ds c.in_ok-y-in-Smap.ensures in (
      omega (arith, ap height e, ap (λ m. height (mode_of m)) c.get.ensures),
      (
        subst (λ m. datum_fits (mode_of m) y ≡ true) (sym c.get.ensures)
            (image_fits a d r ds x y (subst (λ m. datum_fits m (set_of ds) ≡ true) e c.requires.fits) pair),
        (
          subst (λ m. PlacesAreFound bs name (mode_of m) y) (sym c.get.ensures)
              (image_found bs name a d r ds x y (subst (λ m. PlacesAreFound bs name m (set_of ds)) e c.requires.found) pair),
          subst (λ m. HasBases bs name (mode_of m)) (sym c.get.ensures)
              (second_bases bs name d r (SingleMaps a d r) (λ b. refl) (subst (HasBases bs name) e c.requires.there)),
        ),
      ),
    )

pub content_in_form-in_form-requires-in-Mmap : goal.content_in_form-in_form-requires-in-Mmap
content_in_form-in_form-requires-in-Mmap t c =
    let ds = Members c.args.s.now in
    let x = datum c.args.x.now in
    let bs = c.args.bases.now in
    let name = named bs c.args.instance in
    let a = c.in-Mmap.field-0 in
    let d = mode_of c.in-Mmap.field-1 in
    let s = mode_of c.in-Mmap.r in
    let e = ap mode_of c.in-Mmap.is ∙ of_mmap c.in-Mmap.field-0 c.in-Mmap.field-1 c.in-Mmap.r in
    let pair = in_domain c.tests_are_exact.ensures.membership c.operations_have_their_members.ensures.gather x ds c.requires.point in (
      omega (arith, ap height e, ap (λ m. height (mode_of m)) c.get-in-Mmap.ensures),
      (
        subst (λ m. datum_fits (mode_of m) (set_of (Members c.in_ok-ys-in-Mmap.ys)) ≡ true) (sym c.get-in-Mmap.ensures)
            (subst (λ l. datum_fits s (set_of l) ≡ true) (sym c.in_ok-ys-in-Mmap.ensures.images)
            (images_fit a d s ds x pair.0 (subst (λ m. datum_fits m (set_of ds) ≡ true) e c.requires.fits) pair.1)),
        (
          subst (λ m. PlacesAreFound bs name (mode_of m) (set_of (Members c.in_ok-ys-in-Mmap.ys))) (sym c.get-in-Mmap.ensures)
              (subst (λ l. PlacesAreFound bs name s (set_of l)) (sym c.in_ok-ys-in-Mmap.ensures.images)
              (images_found bs name a d s ds x pair.0 (subst (λ m. PlacesAreFound bs name m (set_of ds)) e c.requires.found) pair.1)),
          subst (λ m. HasBases bs name (mode_of m)) (sym c.get-in-Mmap.ensures)
              (second_bases bs name d s (MultiMaps a d s) (λ b. refl) (subst (HasBases bs name) e c.requires.there)),
        ),
      ),
    )

pub content_in_form-returns-in_ok-y-in-Smap : goal.content_in_form-returns-in_ok-y-in-Smap
content_in_form-returns-in_ok-y-in-Smap t c =
    let bs = c.args.bases.now in
    let ds = Members c.args.s.now in
    let x = datum c.args.x.now in
    let y = datum c.in_ok-y-in-Smap.y in
    let name = named bs c.args.instance in
    let e = ap mode_of c.in-Smap.is ∙ of_smap c.in-Smap.field-0 c.in-Smap.field-1 c.in-Smap.r in
    single_ok bs name c.in-Smap.field-0 (mode_of c.in-Smap.field-1) (mode_of c.in-Smap.r) (mode_of c.args.mode.now) ds x y e c.in_form.result c.in_ok-y-in-Smap.ensures
    c.in_form.ensures.stands c.in_form.ensures.over
    (subst (λ m. IfOk c.in_form.result (λ h. HasForm name (mode_of m) (form h))) c.get.ensures c.in_form.ensures.form)

pub content_in_form-returns-in_ok-ys-in-Mmap : goal.content_in_form-returns-in_ok-ys-in-Mmap
content_in_form-returns-in_ok-ys-in-Mmap t c =
    let bs = c.args.bases.now in
    let ds = Members c.args.s.now in
    let x = datum c.args.x.now in
    let name = named bs c.args.instance in
    let e = ap mode_of c.in-Mmap.is ∙ of_mmap c.in-Mmap.field-0 c.in-Mmap.field-1 c.in-Mmap.r in
    let pair = in_domain c.tests_are_exact.ensures.membership c.operations_have_their_members.ensures.gather x ds c.requires.point in
    let image = to_images c.tests_are_exact.ensures.membership c.images_are_by_pairs.ensures x pair.0 ds pair.1 in
    multi_ok bs name c.in-Mmap.field-0 (mode_of c.in-Mmap.field-1) (mode_of c.in-Mmap.r) (mode_of c.args.mode.now) ds x pair.0 e c.in_form-in-Mmap.result c.in_ok-ys-in-Mmap.ensures.rising image
    (subst (λ l. IfOk c.in_form-in-Mmap.result (λ h. stands bs (form h) ≡ Some (set_of l))) c.in_ok-ys-in-Mmap.ensures.images c.in_form-in-Mmap.ensures.stands)
    c.in_form-in-Mmap.ensures.over
    (subst (λ m. IfOk c.in_form-in-Mmap.result (λ h. HasForm name (mode_of m) (form h))) c.get-in-Mmap.ensures c.in_form-in-Mmap.ensures.form)

pub content_in_form-all_images-requires : goal.content_in_form-all_images-requires
content_in_form-all_images-requires t c = fitting_is_map (mode_of c.args.mode.now) (Members c.args.s.now) c.requires.map c.requires.fits

-- ---- elements and bases

pub in_form-element-requires-clause-found : goal.in_form-element-requires-clause-found
in_form-element-requires-clause-found t c =
    found_element c.args.bases.now (named c.args.bases.now c.args.instance) (mode_of c.args.mode.now) c.in-Elmt-default.b (datum c.args.v.now)
    (ap (λ m. base_of (mode_of m)) c.in-Elmt-default.is-0 ∙ ap base_of (of_elmt c.in-Elmt-default.b c.in-Elmt-default.field-1-0)) c.requires.found

pub table_in_form-at-requires : goal.table_in_form-at-requires
table_in_form-at-requires t c =
    subst (IsThere c.args.bases.now) (sym c.named-i.ensures)
    (table_there c.args.bases.now (named c.args.bases.now c.args.instance) (mode_of c.args.mode.now) (layout c.args.lying) c.args.b c.requires.table c.requires.there)
