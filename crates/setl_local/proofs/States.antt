-- A table of fields and the state that it stands for, place by place.
use Rattle.std.proofs.Common.{◌≡◌, ◌∙◌, Bool, true, false, cond, not, ◌&&◌, ◌||◌, List, Option, None, Some, refl, sym, ap, is_some, true≢false}
use Rattle.std.specs.Option.{option_map}
use Rattle.std.specs.Ordering.{eq_by_cmp}
use Rattle.std.specs.List.{list_any}
use Rattle.std.specs.Map.{keys_of}
use Rattle.std.specs.FinSet as set
use Rattle.std.specs.FinMap as map
use Rattle.setl_local.specs.Place.{Place, place_cmp, place_total, place_antisymmetric}
use Rattle.setl_local.specs.FieldState.{FieldState}
use Rattle.setl_local.specs.Entries.{place_eq, bit_of, content_of, field_at, state_of, or_empty, GainsRoom, Alters}
use Rattle.setl_local.specs.declared.fields.Field.{Field}
use Rattle.setl_local.proofs.Places.{same_itself, tied, swapped, same_place, listed, listed-filter, find-entries_by}

any_tied : (q : Place) (ps : List Place) → list_any (eq_by_cmp place_cmp q) ps ≡ list_any (place_eq q) ps
any_tied q ps = λ i. list_any (λ p. tied q p i) ps

either_way : {A : Type 0} (b : Bool) (x y : A) → (b ≡ true → x ≡ y) → cond b x y ≡ y
either_way true x y e = e refl
either_way false x y e = refl

module _ {T : Type 0} where
  bit_there : (o : Option (Field T)) → (is_some o && bit_of o) ≡ bit_of o
  bit_there None = refl
  bit_there (Some field) = refl

  content_there : (o : Option (Field T)) → cond (is_some o) (content_of o) None ≡ content_of o
  content_there None = refl
  content_there (Some field) = refl

  pub room_at : (entries : List (Place × Field T)) (q : Place) → set.contains (state_of entries).room q ≡ is_some (field_at entries q)
  room_at entries q = set.contains-from_list place_total _ q ∙ any_tied q (keys_of entries) ∙ listed q entries

  pub bit_at : (entries : List (Place × Field T)) (q : Place) → set.contains (state_of entries).bits q ≡ bit_of (field_at entries q)
  bit_at entries q =
      set.contains-from_list place_total _ q
      ∙ any_tied q _
      ∙ listed-filter (λ p. bit_of (field_at entries p)) q (keys_of entries)
      ∙ ap (λ b. b && bit_of (field_at entries q)) (listed q entries)
      ∙ bit_there (field_at entries q)

  pub content_at : (entries : List (Place × Field T)) (q : Place) → map.get (state_of entries).contents q ≡ content_of (field_at entries q)
  content_at entries q =
      map.get-from_entries place_total _ q
      ∙ find-entries_by (λ p. content_of (field_at entries p)) q (keys_of entries)
      ∙ ap (λ b. cond b (content_of (field_at entries q)) None) (listed q entries)
      ∙ content_there (field_at entries q)

  -- what is read of a field at q, after a change at p that gives there `after`
  read_at : {A : Type 0} (g : Option (Field T) → A) (p q : Place) (after : Option (Field T)) (entries : List (Place × Field T)) (hit : A)
      → (place_eq p q ≡ true → g after ≡ hit) → g (cond (place_eq p q) after (field_at entries q)) ≡ cond (place_eq p q) hit (g (field_at entries q))
  read_at g p q after entries hit says =
      elim (place_eq p q) as (λ b. (b ≡ true → g after ≡ hit) → g (cond b after (field_at entries q)) ≡ cond b hit (g (field_at entries q))) [
        | true ↦ λ says. says refl
        | false ↦ λ says. refl
      ] says

  -- a change at p, which gives there `after`
  module _ (p : Place) (after : Option (Field T)) (old new : List (Place × Field T)) (changed : (q : Place) → field_at new q ≡ cond (place_eq p q) after (field_at old q)) where
    stays : {A : Type 0} (g : Option (Field T) → A) → g after ≡ g (field_at old p) → (q : Place) → g (field_at new q) ≡ g (field_at old q)
    stays g e q =
        ap g (changed q)
        ∙ read_at g p q after old (g (field_at old p)) (λ _. e)
        ∙ either_way (place_eq p q) _ _ (λ same. ap (λ r. g (field_at old r)) (same_place p q same))

    pub same_room : is_some after ≡ is_some (field_at old p) → (state_of new).room ≡ (state_of old).room
    same_room e = set.same_set place_total place_antisymmetric _ _ (λ q. room_at new q ∙ stays is_some e q ∙ sym (room_at old q))

    pub same_bits : bit_of after ≡ bit_of (field_at old p) → (state_of new).bits ≡ (state_of old).bits
    same_bits e = set.same_set place_total place_antisymmetric _ _ (λ q. bit_at new q ∙ stays bit_of e q ∙ sym (bit_at old q))

    pub same_contents : content_of after ≡ content_of (field_at old p) → (state_of new).contents ≡ (state_of old).contents
    same_contents e = map.same_map place_total place_antisymmetric _ _ (λ q. content_at new q ∙ stays content_of e q ∙ sym (content_at old q))

    or_hit : (b c : Bool) → cond b true c ≡ (b || c)
    or_hit true c = refl
    or_hit false c = refl

    and_miss : (b c : Bool) → cond b false c ≡ (not b && c)
    and_miss true c = refl
    and_miss false c = refl

    pub more_room : is_some after ≡ true → (state_of new).room ≡ set.insert (state_of old).room p
    more_room e = set.same_set place_total place_antisymmetric _ _ (λ q.
        room_at new q
        ∙ ap is_some (changed q)
        ∙ read_at is_some p q after old true (λ _. e)
        ∙ or_hit (place_eq p q) _
        ∙ sym (set.contains-insert place_total _ p q ∙ (λ i. swapped p q i || room_at old q i)))

    pub bit_inserted : bit_of after ≡ true → (state_of new).bits ≡ set.insert (state_of old).bits p
    bit_inserted e = set.same_set place_total place_antisymmetric _ _ (λ q.
        bit_at new q
        ∙ ap bit_of (changed q)
        ∙ read_at bit_of p q after old true (λ _. e)
        ∙ or_hit (place_eq p q) _
        ∙ sym (set.contains-insert place_total _ p q ∙ (λ i. swapped p q i || bit_at old q i)))

    pub bit_removed : bit_of after ≡ false → (state_of new).bits ≡ set.remove (state_of old).bits p
    bit_removed e = set.same_set place_total place_antisymmetric _ _ (λ q.
        bit_at new q
        ∙ ap bit_of (changed q)
        ∙ read_at bit_of p q after old false (λ _. e)
        ∙ and_miss (place_eq p q) _
        ∙ sym (set.contains-remove place_total _ p q ∙ (λ i. not (swapped p q i) && bit_at old q i)))

    pub content_inserted : (c : T) → content_of after ≡ Some c → (state_of new).contents ≡ map.insert (state_of old).contents p c
    content_inserted c e = map.same_map place_total place_antisymmetric _ _ (λ q.
        content_at new q
        ∙ ap content_of (changed q)
        ∙ read_at content_of p q after old (Some c) (λ _. e)
        ∙ sym (map.get-insert place_total _ p c q ∙ (λ i. cond (swapped p q i) (Some c) (content_at old q i))))

    pub content_removed : content_of after ≡ None → (state_of new).contents ≡ map.remove (state_of old).contents p
    content_removed e = map.same_map place_total place_antisymmetric _ _ (λ q.
        content_at new q
        ∙ ap content_of (changed q)
        ∙ read_at content_of p q after old None (λ _. e)
        ∙ sym (map.get-remove place_total _ p q ∙ (λ i. cond (swapped p q i) None (content_at old q i))))

  -- room at p in a table that stood for the state s
  module _ (p : Place) (old new : List (Place × Field T)) (s : FieldState T) (gains : GainsRoom p old new) (is : state_of old ≡ s) where
    pub room_gained : (state_of new).room ≡ set.insert s.room p
    room_gained = more_room p (Some (or_empty (field_at old p))) old new gains refl ∙ ap (λ t. set.insert t.room p) is

    pub room_there : set.contains (state_of new).room p ≡ true
    room_there =
        room_at new p
        ∙ ap is_some (gains p)
        ∙ ap (λ b. is_some (cond b (Some (or_empty (field_at old p))) (field_at old p))) (same_itself p)

    pub bits_beside_room : (state_of new).bits ≡ s.bits
    bits_beside_room = same_bits p (Some (or_empty (field_at old p))) old new gains (of (field_at old p)) ∙ ap (λ t. t.bits) is
      where
        of : (o : Option (Field T)) → bit_of (Some (or_empty o)) ≡ bit_of o
        of None = refl
        of (Some field) = refl

    pub contents_beside_room : (state_of new).contents ≡ s.contents
    contents_beside_room = same_contents p (Some (or_empty (field_at old p))) old new gains (of (field_at old p)) ∙ ap (λ t. t.contents) is
      where
        of : (o : Option (Field T)) → content_of (Some (or_empty o)) ≡ content_of o
        of None = refl
        of (Some field) = refl

  mapped : (f : Field T → Field T) (o : Option (Field T)) → is_some (option_map f o) ≡ is_some o
  mapped f None = refl
  mapped f (Some field) = refl

  -- a change by f at p of a table that stood for the state s
  module _ (f : Field T → Field T) (p : Place) (old new : List (Place × Field T)) (s : FieldState T) (changed : Alters f p old new) (is : state_of old ≡ s) where
    abbrev after : Option (Field T)
    after = option_map f (field_at old p)

    there : set.contains s.room p ≡ true → is_some (field_at old p) ≡ true
    there room = sym (room_at old p) ∙ ap (λ t. set.contains t.room p) is ∙ room

    pub room_kept : (state_of new).room ≡ s.room
    room_kept = same_room p after old new changed (mapped f (field_at old p)) ∙ ap (λ t. t.room) is

    pub bits_kept : ((field : Field T) → (f field).bit ≡ field.bit) → (state_of new).bits ≡ s.bits
    bits_kept keeps = same_bits p after old new changed (of (field_at old p)) ∙ ap (λ t. t.bits) is
      where
        of : (o : Option (Field T)) → bit_of (option_map f o) ≡ bit_of o
        of None = refl
        of (Some field) = keeps field

    pub contents_kept : ((field : Field T) → (f field).content ≡ field.content) → (state_of new).contents ≡ s.contents
    contents_kept keeps = same_contents p after old new changed (of (field_at old p)) ∙ ap (λ t. t.contents) is
      where
        of : (o : Option (Field T)) → content_of (option_map f o) ≡ content_of o
        of None = refl
        of (Some field) = keeps field

    pub bit_on : ((field : Field T) → (f field).bit ≡ true) → set.contains s.room p ≡ true → (state_of new).bits ≡ set.insert s.bits p
    bit_on on room = bit_inserted p after old new changed (of (field_at old p) (there room)) ∙ ap (λ t. set.insert t.bits p) is
      where
        of : (o : Option (Field T)) → is_some o ≡ true → bit_of (option_map f o) ≡ true
        of None e = e
        of (Some field) e = on field

    pub bit_off : ((field : Field T) → (f field).bit ≡ false) → (state_of new).bits ≡ set.remove s.bits p
    bit_off off = bit_removed p after old new changed (of (field_at old p)) ∙ ap (λ t. set.remove t.bits p) is
      where
        of : (o : Option (Field T)) → bit_of (option_map f o) ≡ false
        of None = refl
        of (Some field) = off field

    pub content_in : (c : T) → ((field : Field T) → (f field).content ≡ Some c) → set.contains s.room p ≡ true → (state_of new).contents ≡ map.insert s.contents p c
    content_in c gives room = content_inserted p after old new changed c (of (field_at old p) (there room)) ∙ ap (λ t. map.insert t.contents p c) is
      where
        of : (o : Option (Field T)) → is_some o ≡ true → content_of (option_map f o) ≡ Some c
        of None e = absurd (true≢false (sym e))
        of (Some field) e = gives field

    pub content_out : ((field : Field T) → (f field).content ≡ None) → (state_of new).contents ≡ map.remove s.contents p
    content_out takes = content_removed p after old new changed (of (field_at old p)) ∙ ap (λ t. map.remove t.contents p) is
      where
        of : (o : Option (Field T)) → content_of (option_map f o) ≡ None
        of None = refl
        of (Some field) = takes field

  -- what is read of a table that stands for the state s
  module _ (p : Place) (entries : List (Place × Field T)) (s : FieldState T) (is : state_of entries ≡ s) where
    pub read_bit : (o : Option (Field T)) → field_at entries p ≡ o → set.contains s.bits p ≡ bit_of o
    read_bit o e = ap (λ t. set.contains t.bits p) (sym is) ∙ bit_at entries p ∙ ap bit_of e

    pub read_content : (o : Option (Field T)) → field_at entries p ≡ o → map.get s.contents p ≡ content_of o
    read_content o e = ap (λ t. map.get t.contents p) (sym is) ∙ content_at entries p ∙ ap content_of e
