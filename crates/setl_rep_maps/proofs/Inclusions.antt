-- A map with one more image at one number.
use Rattle.std.proofs.Common.{◌≡◌, ◌∙◌, ◌⊎◌, inl, inr, ⊎_elim, ℕ, ◌==◌, Bool, true, false, cond, List, Option, None, Some, option_and_then, refl, sym, ap, subst, eqb-true, eq-eqb}
use Rattle.std.proofs.lemmas.Bool.{false≢true}
use Rattle.std.specs.List.{Contains}
use Rattle.setl_value.specs.Datum.{Datum}
use Rattle.setl_value.specs.Pairs.{pair}
use Rattle.setl_set.specs.Sets.{has_datum, insert_datum}
use Rattle.setl_set.specs.Laws.{IsSetOf, RisingListsAgree, TestsMembership, Gathers, Inserts}
use Rattle.setl_base.specs.Base.{BaseState}
use Rattle.setl_rep_bases.specs.Bases.{BasesState, base_at}
use Rattle.setl_rep_forms.specs.Form.{Form, Entries, table}
use Rattle.setl_rep_forms.specs.Stands.{value_at, stands, pairs_in, AreOver}
use Rattle.setl_rep_tables.specs.Tables.{content_in, IsKeyed, images_of, table_pairs, MembersOfTables}
use Rattle.setl_rep_maps.specs.Laws.{ImagesMakePairs}
use Rattle.setl_rep_maps.proofs.Members.{some_same}
use Rattle.setl_rep_maps.proofs.Tabled.{contents_rise}

abbrev images_at : BasesState → Bool → Option Form → List Datum
images_at bs many o = images_of many (option_and_then (stands bs) o)

-- what has an image is a content
is_content : (bs : BasesState) (many : Bool) (w : Datum) (o : Option Form) → has_datum w (images_at bs many o) ≡ true → (k : Form) × (o ≡ Some k) × (has_datum w (images_of many (stands bs k)) ≡ true)
is_content bs true w None h = absurd (false≢true h)
is_content bs false w None h = absurd (false≢true h)
is_content bs many w (Some k) h = (k, refl, h)

module _ (agree : RisingListsAgree) (tests : TestsMembership) (gathers : Gathers) (inserts : Inserts) (members : MembersOfTables) where
  module _ (bs : BasesState) (b : BaseState) (many : Bool) (es fs : Entries) (n : ℕ) (c : Option Form) (x y : Datum) (over : AreOver bs b many es) (keyed : IsKeyed es) (keyed_then : IsKeyed fs) (point : value_at b n ≡ Some x)
      (put : (q : ℕ) → content_in fs q ≡ cond (n == q) c (content_in es q)) (more : images_at bs many c ≡ insert_datum y (images_at bs many (content_in es n))) where
    abbrev before : List Datum
    before = table_pairs bs b many es

    abbrev after : List Datum
    after = table_pairs bs b many fs

    abbrev old_images : List Datum
    old_images = images_at bs many (content_in es n)

    at_number : content_in fs n ≡ c
    at_number = put n ∙ ap (λ t. cond t c (content_in es n)) (eq-eqb n n refl)

    elsewhere : (q : ℕ) → (n == q) ≡ false → content_in fs q ≡ content_in es q
    elsewhere q h = put q ∙ ap (λ t. cond t c (content_in es q)) h

    images_then : IsSetOf (λ w. (w ≡ y) ⊎ Contains old_images w) (insert_datum y old_images)
    images_then = inserts y old_images (contents_rise bs b many es n over)

    -- the pair of an image at the number is there before, and after
    was_pair : (w : Datum) → has_datum w old_images ≡ true → Contains before (pair x w)
    was_pair w h = let k = is_content bs many w (content_in es n) h in (members bs b many es (pair x w) keyed).1 (n, k.0, x, w, k.1, point, k.2, refl)

    is_pair : (w : Datum) → Contains (insert_datum y old_images) w → Contains after (pair x w)
    is_pair w h =
        let k = is_content bs many w c (ap (has_datum w) more ∙ (tests w (insert_datum y old_images)).1 h) in
        (members bs b many fs (pair x w) keyed_then).1 (n, k.0, x, w, at_number ∙ k.1, point, k.2, refl)

    same_point : (q : ℕ) (z : Datum) → value_at b q ≡ Some z → (n == q) ≡ true → z ≡ x
    same_point q z v e = some_same (sym v ∙ ap (value_at b) (sym (eqb-true n q e)) ∙ point)

    forth : (p : Datum) → Contains after p → (p ≡ pair x y) ⊎ Contains before p
    forth p h = by (n == m.0) refl
      where
        m : (q : ℕ) × (k : Form) × (z : Datum) × (w : Datum) × (content_in fs q ≡ Some k) × (value_at b q ≡ Some z) × (has_datum w (images_of many (stands bs k)) ≡ true) × (p ≡ pair z w)
        m = (members bs b many fs p keyed_then).0 h

        by : (t : Bool) → (n == m.0) ≡ t → (p ≡ pair x y) ⊎ Contains before p
        by true e =
            let is : c ≡ Some m.1 = sym at_number ∙ ap (content_in fs) (eqb-true n m.0 e) ∙ m.4 in
            let there : has_datum m.3 (insert_datum y old_images) ≡ true = ap (has_datum m.3) (sym more) ∙ ap (λ o. has_datum m.3 (images_at bs many o)) is ∙ m.6 in
            let it : p ≡ pair x m.3 = m.7 ∙ ap (λ z. pair z m.3) (same_point m.0 m.2 m.5 e) in
            ⊎_elim
            (λ s. inl (it ∙ ap (pair x) s))
            (λ s. inr (subst (Contains before) (sym it) (was_pair m.3 ((tests m.3 old_images).1 s))))
            ((images_then.members m.3).0 ((tests m.3 (insert_datum y old_images)).0 there))
        by false e = inr ((members bs b many es p keyed).1 (m.0, m.1, m.2, m.3, sym (elsewhere m.0 e) ∙ m.4, m.5, m.6, m.7))

    back : (p : Datum) → (p ≡ pair x y) ⊎ Contains before p → Contains after p
    back p (inl s) = subst (Contains after) (sym s) (is_pair y ((images_then.members y).1 (inl refl)))
    back p (inr h) = by (n == m.0) refl
      where
        m : (q : ℕ) × (k : Form) × (z : Datum) × (w : Datum) × (content_in es q ≡ Some k) × (value_at b q ≡ Some z) × (has_datum w (images_of many (stands bs k)) ≡ true) × (p ≡ pair z w)
        m = (members bs b many es p keyed).0 h

        by : (t : Bool) → (n == m.0) ≡ t → Contains after p
        by true e =
            let is : content_in es n ≡ Some m.1 = ap (content_in es) (eqb-true n m.0 e) ∙ m.4 in
            let there : has_datum m.3 old_images ≡ true = ap (λ o. has_datum m.3 (images_at bs many o)) is ∙ m.6 in
            subst (Contains after) (sym (m.7 ∙ ap (λ z. pair z m.3) (same_point m.0 m.2 m.5 e))) (is_pair m.3 ((images_then.members m.3).1 (inr ((tests m.3 old_images).0 there))))
        by false e = (members bs b many fs p keyed_then).1 (m.0, m.1, m.2, m.3, elsewhere m.0 e ∙ m.4, m.5, m.6, m.7)

    pub one_pair : after ≡ insert_datum (pair x y) before
    one_pair =
        let all : IsSetOf (λ p. (p ≡ pair x y) ⊎ Contains before p) (insert_datum (pair x y) before) = inserts (pair x y) before (gathers (pairs_in bs b many es)).rising in
        agree after (insert_datum (pair x y) before) (gathers (pairs_in bs b many fs)).rising all.rising (λ p. (λ h. (all.members p).1 (forth p h), λ h. back p ((all.members p).0 h)))

  pub images_make_pairs : ImagesMakePairs
  images_make_pairs bs (table k b many es) (table l d some fs) n c x y over keyed keyed_then point put more =
      (λ i. table_pairs bs (base_at bs (put.1 i)) (put.2 i) fs) ∙ one_pair bs (base_at bs b) many es fs n c x y over.1 keyed keyed_then point put.3 more
  images_make_pairs bs (table k b many es) g n c x y over keyed keyed_then point put more = absurd put
  images_make_pairs bs f g n c x y over keyed keyed_then point put more = absurd point
