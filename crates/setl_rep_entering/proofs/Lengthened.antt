-- Laws of bases that were lengthened.
use Rattle.std.proofs.Common.{append-nil, ◌≡◌, ◌∙◌, ℕ, zero, suc, Bool, true, false, not, cond, ◌&&◌, ◌||◌, List, [], ◌∷◌, ◌++◌, map, slice_get, Option, None, Some, IsSome, refl, sym, ap, subst}
use Rattle.std.proofs.Math.Bool.{and-true}
use Rattle.std.proofs.lemmas.Bool.{false≢true, or_left, or_right, and_parts}
use Rattle.std.specs.Bool.{if◌then◌else◌}
use Rattle.std.specs.List.{filter}
use Rattle.std.specs.Option.{option_map, option_map_or, is_some}
use Rattle.std.specs.Ordering.{is_eq}
use Rattle.setl_value.specs.Datum.{Datum}
use Rattle.setl_value.specs.Order.{datum_cmp}
use Rattle.setl_value.specs.code.DatumOf.{datum}
use Rattle.setl_set.specs.Sets.{has_datum, set_from}
use Rattle.setl_set.specs.Laws.{TestsMembership, Gathers}
use Rattle.setl_modes.specs.Modes.{Mode}
use Rattle.setl_modes_places.specs.Places.{elements_at, names, places_of, lengthened, PlacesAreNamed}
use Rattle.setl_base.specs.Base.{BaseState, Member, empty, member_at, find}
use Rattle.setl_rep_bases.specs.declared.BaseId.{BaseId}
use Rattle.setl_rep_bases.specs.declared.tables.Instance.{Instance}
use Rattle.setl_rep_bases.specs.BaseId.{is_id, id, main}
use Rattle.setl_rep_bases.specs.Bases.{BasesState, instance_at, base_at, is_there, named, IsThere}
use Rattle.setl_rep_bases.specs.Keeping.{AreKept}
use Rattle.setl_rep_bases.specs.Reading.{NamesAreExact, BasesAgree}
use Rattle.setl_rep_entering.specs.Entering.{values_in, with_values, lengthened_by, is_named, places_in, AreLengthened}
use Rattle.setl_rep_entering.specs.Laws.{MembersAreLengthened, OthersStay, NamesStay, PlacesAreFound, PlacesAreMembers, BlocksAreKept, MembersChangeNothing, MembersLengthenNothing}
use Rattle.setl_rep_entering.specs.declared.places.Place.{Place}
use Rattle.setl_rep_entering.specs.code.Finding.{has_place, is_new, Gains}
use Rattle.setl_rep_entering.proofs.Entered.{has_append, itself, named_base, found}
use Rattle.setl_rep_entering.proofs.Appended.{has_left, has_set, has_places_in}

-- ---- one base

pub nothing_more : (b : BaseState) → with_values b [] ≡ b
nothing_more b = ap (λ l. record b { members = l }) (append-nil b.members)

values_of_new : (ms : List Member) (g : ℕ) (ds : List Datum) → map (λ (m : Member). m.value) (ms ++ map (λ d. record { value = d; generation = g }) ds) ≡ map (λ (m : Member). m.value) ms ++ ds
values_of_new [] g [] = refl
values_of_new [] g (d ∷ ds) = ap (λ l. d ∷ l) (values_of_new [] g ds)
values_of_new (m ∷ ms) g ds = ap (λ l. m.value ∷ l) (values_of_new ms g ds)

values_lengthened : (b : BaseState) (ds : List Datum) → values_in (with_values b ds) ≡ lengthened (values_in b) ds
values_lengthened b ds = values_of_new b.members b.cuts (filter (λ d. not (has_datum d (values_in b))) ds)

get_before : {A : Type 0} (xs ys : List A) (i : ℕ) (x : A) → slice_get xs i ≡ Some x → slice_get (xs ++ ys) i ≡ Some x
get_before [] ys i x p = cc
get_before (z ∷ zs) ys zero x p = p
get_before (z ∷ zs) ys (suc i) x p = get_before zs ys i x p

member_stays : (b : BaseState) (ds : List Datum) (n : ℕ) (m : Member) → member_at b n ≡ Some m → member_at (with_values b ds) n ≡ Some m
member_stays b ds zero m p = p
member_stays b ds (suc i) m p = get_before b.members _ i m p

-- what is among the new values is a member then
is_member : (x : Datum) (vs ds : List Datum) → has_datum x ds ≡ true → has_datum x (lengthened vs ds) ≡ true
is_member x vs ds h = has_append x vs (filter (λ d. not (has_datum d vs)) ds) ∙ by (has_datum x vs) refl
  where
    by : (t : Bool) → has_datum x vs ≡ t → (has_datum x vs || has_datum x (filter (λ d. not (has_datum d vs)) ds)) ≡ true
    by true e = or_left (has_datum x vs) _ e
    by false e = or_right (has_datum x vs) _ (has_left x vs ds ∙ ap (λ t. has_datum x ds && not t) e ∙ and-true (has_datum x ds) ∙ h)

-- where all are members there is no new one
none_new : (vs ds : List Datum) → ((x : Datum) → has_datum x ds ≡ true → has_datum x vs ≡ true) → filter (λ d. not (has_datum d vs)) ds ≡ []
none_new vs [] h = refl
none_new vs (d ∷ ds) h =
    ap (λ t. cond (not t) (d ∷ filter (λ d. not (has_datum d vs)) ds) (filter (λ d. not (has_datum d vs)) ds)) (h d (or_left (is_eq (datum_cmp d d)) (has_datum d ds) (itself d)))
    ∙ none_new vs ds (λ x k. h x (or_right (is_eq (datum_cmp x d)) (has_datum x ds) k))

all_members : (b : BaseState) (ds : List Datum) → ((x : Datum) → has_datum x ds ≡ true → has_datum x (values_in b) ≡ true) → with_values b ds ≡ b
all_members b ds h = ap (λ l. record b { members = b.members ++ map (λ d. record { value = d; generation = b.cuts }) l }) (none_new (values_in b) ds h) ∙ nothing_more b

-- ---- names

names_itself : NamesAreExact → (bs : BasesState) (n b : ℕ) → is_named bs n (named bs n b) ≡ true
names_itself exact bs n b = (exact (named bs n b) (named bs n (named bs n b).base)).1 (ap (named bs n) (sym (named_base bs n b)))

pub places_named : NamesAreExact → (bs : BasesState) (n : ℕ) (m : Mode) (d : Datum) (b : ℕ) → places_in bs n m d (named bs n b) ≡ places_of b m d
places_named exact bs n m d b = ap (λ t. if t then places_of (named bs n b).base m d else []) (names_itself exact bs n b) ∙ ap (λ k. places_of k m d) (named_base bs n b)

some_mapped : {A B : Type 0} (f : A → B) (o : Option A) → is_some (option_map f o) ≡ is_some o
some_mapped f None = refl
some_mapped f (Some x) = refl

-- ---- the laws

module _ (m : Mode) (d : Datum) (n : ℕ) (bs cs : BasesState) (l : AreLengthened m d n bs cs) where
  abbrev ds : BaseId → List Datum
  ds i = places_in bs n m d i

  still_there : (i : BaseId) → is_there cs i ≡ is_there bs i
  still_there i = ap is_some (l.instances i) ∙ some_mapped (lengthened_by (ds i)) (instance_at bs i)

  names_same : (k b : ℕ) → named cs k b ≡ named bs k b
  names_same k b = ap (λ t. if t then main b else id b k) (still_there (main b))

  base_then : (i : BaseId) → IsThere bs i → base_at cs i ≡ with_values (base_at bs i) (ds i)
  base_then i s = ap (λ o. option_map_or (λ x. x.base) o empty) (l.instances i) ∙ by (instance_at bs i) s
    where
      by : (o : Option Instance) → IsSome o → option_map_or (λ (x : Instance). x.base) (option_map (lengthened_by (places_in bs n m d i)) o) empty ≡ with_values (option_map_or (λ (x : Instance). x.base) o empty) (places_in bs n m d i)
      by None s = absurd (false≢true s)
      by (Some x) s = refl

  none_then : (i : BaseId) → is_there bs i ≡ false → (base_at cs i ≡ empty) × (base_at bs i ≡ empty)
  none_then i s = (ap (λ o. option_map_or (λ x. x.base) o empty) (l.instances i) ∙ (by (instance_at bs i) s).0, (by (instance_at bs i) s).1)
    where
      by : (o : Option Instance) → is_some o ≡ false → (option_map_or (λ (x : Instance). x.base) (option_map (lengthened_by (places_in bs n m d i)) o) empty ≡ empty) × (option_map_or (λ (x : Instance). x.base) o empty ≡ empty)
      by None s = (refl, refl)
      by (Some x) s = absurd (false≢true (sym s))

  values_then : NamesAreExact → (b : ℕ) → IsThere bs (named bs n b) → values_in (base_at cs (named bs n b)) ≡ lengthened (values_in (base_at bs (named bs n b))) (places_of b m d)
  values_then exact b s =
      ap values_in (base_then (named bs n b) s)
      ∙ values_lengthened (base_at bs (named bs n b)) (ds (named bs n b))
      ∙ ap (lengthened (values_in (base_at bs (named bs n b)))) (places_named exact bs n m d b)

  unchanged : (i : BaseId) → ds i ≡ [] → instance_at cs i ≡ instance_at bs i
  unchanged i e = l.instances i ∙ ap (λ xs. option_map (lengthened_by xs) (instance_at bs i)) e ∙ by (instance_at bs i)
    where
      by : (o : Option Instance) → option_map (lengthened_by []) o ≡ o
      by None = refl
      by (Some x) = ap (λ b. Some (record x { base = b })) (nothing_more x.base)

  kept : AreKept bs cs
  kept = record {
    there = λ i s. still_there i ∙ s;
    members = λ i k x e. by i k x e (is_there bs i) refl;
  }
    where
      by : (i : BaseId) (k : ℕ) (x : Member) → member_at (base_at bs i) k ≡ Some x → (t : Bool) → is_there bs i ≡ t → member_at (base_at cs i) k ≡ Some x
      by i k x e true s = ap (λ b. member_at b k) (base_then i s) ∙ member_stays (base_at bs i) (ds i) k x e
      by i k x e false s = let p = none_then i s in ap (λ b. member_at b k) (p.0 ∙ sym p.1) ∙ e

pub members_are_lengthened : PlacesAreNamed → NamesAreExact → MembersAreLengthened
members_are_lengthened no_places exact m d n bs cs there l b = by (is_there bs (named bs n b)) refl
  where
    i : BaseId
    i = named bs n b

    no_name : is_there bs i ≡ false → (t : Bool) → names b m ≡ t → names b m ≡ false
    no_name s true e = absurd (false≢true (sym s ∙ there b e))
    no_name s false e = e

    by : (t : Bool) → is_there bs i ≡ t → values_in (base_at cs i) ≡ lengthened (values_in (base_at bs i)) (places_of b m d)
    by true s = values_then m d n bs cs l exact b s
    by false s =
        let p = none_then m d n bs cs l i s in
        ap values_in p.0 ∙ sym (λ k. lengthened (values_in (p.1 k)) (set_from (no_places b m d (no_name s (names b m) refl) k)))

pub others_stay : PlacesAreNamed → OthersStay
others_stay no_places m d n bs cs l i = (
  λ e. unchanged m d n bs cs l i (nowhere (is_named bs n i) (ap set_from (no_places i.base m d e))),
  λ e. unchanged m d n bs cs l i (ap (λ t. if t then places_of i.base m d else []) e),
)
  where
    nowhere : (t : Bool) → places_of i.base m d ≡ [] → (if t then places_of i.base m d else []) ≡ []
    nowhere true e = e
    nowhere false e = refl

pub names_stay : NamesStay
names_stay m d n bs cs l k b = names_same m d n bs cs l k b

pub places_are_members : TestsMembership → Gathers → PlacesAreNamed → NamesAreExact → PlacesAreMembers
places_are_members tests gathers no_places exact m d n bs cs there l = (λ b h. there_too b h, λ b x h. find_it b x h)
  where
    same : (b : ℕ) → named bs n b ≡ named cs n b
    same b = sym (names_same m d n bs cs l n b)

    there_too : (b : ℕ) → names b m ≡ true → IsThere cs (named cs n b)
    there_too b h = subst (IsThere cs) (same b) (still_there m d n bs cs l (named bs n b) ∙ there b h)

    has_name : (b : ℕ) (x : Datum) → has_datum x (elements_at b m d) ≡ true → (t : Bool) → names b m ≡ t → names b m ≡ true
    has_name b x h true e = e
    has_name b x h false e = absurd (false≢true (sym (ap (has_datum x) (no_places b m d e)) ∙ h))

    find_it : (b : ℕ) (x : Datum) → has_datum x (elements_at b m d) ≡ true → IsSome (find (base_at cs (named cs n b)) x)
    find_it b x h =
        subst (λ i. IsSome (find (base_at cs i) x)) (same b)
        (found (base_at cs (named bs n b)) x
        ∙ ap (has_datum x) (values_then m d n bs cs l exact b (there b (has_name b x h (names b m) refl)))
        ∙ is_member x (values_in (base_at bs (named bs n b))) (places_of b m d) (has_set tests gathers x (elements_at b m d) ∙ h))

pub blocks_are_kept : BlocksAreKept
blocks_are_kept m d n bs cs l = kept m d n bs cs l

-- where each value at a place is a member
module _ (tests : TestsMembership) (gathers : Gathers) (exact : NamesAreExact) (m : Mode) (d : Datum) (n : ℕ) (bs : BasesState) (all : PlacesAreFound bs n m d) where
  in_base : (i : BaseId) (x : Datum) → has_datum x (places_in bs n m d i) ≡ true → has_datum x (values_in (base_at bs i)) ≡ true
  in_base i x h =
      let p = and_parts (is_named bs n i) (has_datum x (elements_at i.base m d)) (sym (has_places_in tests gathers bs n m d i x) ∙ h) in
      sym (found (base_at bs i) x) ∙ ap (λ j. is_some (find (base_at bs j) x)) ((exact i (named bs n i.base)).0 p.0) ∙ all i.base x p.1

  same_instance : (i : BaseId) (o : Option Instance) → instance_at bs i ≡ o → option_map (lengthened_by (places_in bs n m d i)) o ≡ o
  same_instance i None e = refl
  same_instance i (Some y) e =
      let b : base_at bs i ≡ y.base = ap (λ o. option_map_or (λ x. x.base) o empty) e in
      ap (λ c. Some (record y { base = c })) (subst (λ c. with_values c (places_in bs n m d i) ≡ c) b (all_members (base_at bs i) (places_in bs n m d i) (in_base i)))

pub members_change_nothing : TestsMembership → Gathers → NamesAreExact → BasesAgree → MembersChangeNothing
members_change_nothing tests gathers exact agree m d n bs cs all l = agree cs bs l.count (λ i. l.instances i ∙ same_instance tests gathers exact m d n bs all i (instance_at bs i) refl)

pub members_lengthen_nothing : TestsMembership → Gathers → NamesAreExact → MembersLengthenNothing
members_lengthen_nothing tests gathers exact m d n bs all = record {
  count = refl;
  instances = λ i. sym (same_instance tests gathers exact m d n bs all i (instance_at bs i) refl);
}

-- ---- what a walk found

module _ (exact : NamesAreExact) (m : Mode) (d : Datum) (n : ℕ) (bs : BasesState) (ps : List Place) (gains : Gains bs n (λ b. elements_at b m d) [] ps) where
  pub none_new_is_found : ps ≡ [] → PlacesAreFound bs n m d
  none_new_is_found e b x h = by (has_datum x (values_in (base_at bs (named bs n b)))) refl
    where
      by : (t : Bool) → has_datum x (values_in (base_at bs (named bs n b))) ≡ t → IsSome (find (base_at bs (named bs n b)) x)
      by true q = found (base_at bs (named bs n b)) x ∙ q
      by false q =
          let at : has_datum x (elements_at (named bs n b).base m d) ≡ true = ap (λ k. has_datum x (elements_at k m d)) (named_base bs n b) ∙ h in
          absurd (false≢true (ap (has_place (named bs n b) x) (sym e) ∙ gains (named bs n b) x ∙ (λ j. (names_itself exact bs n b j && not (q j)) && at j)))

  pub found_is_none_new : PlacesAreFound bs n m d → ps ≡ []
  found_is_none_new all = by ps refl
    where
      by : (qs : List Place) → ps ≡ qs → qs ≡ []
      by [] e = refl
      by (p ∷ qs) e =
          let i = p.base in
          let x = datum p.value in
          let here : has_place i x (p ∷ qs) ≡ true = or_left (is_id i i && is_eq (datum_cmp x x)) (has_place i x qs) (λ j. (exact i i).1 refl j && itself x j) in
          let both = and_parts (is_new bs n i x) (has_datum x (elements_at i.base m d)) (sym (gains i x) ∙ ap (has_place i x) e ∙ here) in
          let new = and_parts (is_named bs n i) (not (has_datum x (values_in (base_at bs i)))) both.0 in
          let member : has_datum x (values_in (base_at bs i)) ≡ true =
          sym (found (base_at bs i) x) ∙ ap (λ j. is_some (find (base_at bs j) x)) ((exact i (named bs n i.base)).0 new.0) ∙ all i.base x both.1
          in
          absurd (false≢true (ap not (sym member) ∙ new.1))
