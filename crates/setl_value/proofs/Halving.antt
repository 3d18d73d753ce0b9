-- Searching a rising list by halving.
use Rattle.std.specs.Prelude.{◌≡◌, ◌⊎◌, ℕ, zero, suc, ◌+◌, ◌<◌, ◌≤◌, true, false, List, [], ◌∷◌, Option, Some, None, refl, take, drop, length, slice_get}
use Rattle.std.specs.List.{AllByRecursion}
use Rattle.std.specs.List.Sorted.{IsStrictlySortedBy}
use Rattle.std.specs.declared.cmp.Ordering.{Ordering}
use Rattle.std.specs.declared.cmp.Ordering.TheVariants.{Less, Equal, Greater}
use Rattle.std.specs.Ordering.{is_lt, is_eq, ordering_then, ordering_reverse}
use Rattle.std.specs.Option.{unwrap_or}
use Rattle.std.proofs.Common.{ap, sym, ◌∙◌, subst, arith, inl, inr}
use Rattle.std.proofs.lemmas.Bool.{true≢false, false≢true}
use Rattle.std.proofs.lemmas.Option.{none-some}
use Rattle.setl_value.specs.Datum.{Datum, part_then, no_part, parts_of}
use Rattle.setl_value.specs.Order.{datum_cmp, parts_cmp, IsRising}
use Rattle.setl_value.specs.OrderLaws.{datum_cmp_total}
use Rattle.setl_value.specs.code.Places.{IsPlace, IsBound, IsBetween}
use Rattle.setl_value_pages.specs.ListLaws.{all_at}

abbrev AllBelow : Datum → List Datum → Type 0
AllBelow d ds = AllByRecursion (λ e. datum_cmp e d ≡ Less) ds

abbrev NoneBelow : Datum → List Datum → Type 0
NoneBelow d ds = AllByRecursion (λ e. is_lt (datum_cmp e d) ≡ false) ds

some_same : {X : Type 0} (x y : X) → Some x ≡ Some y → x ≡ y
some_same x y p = ap (λ o. unwrap_or o x) p

-- ---- one more that is below, or that isn't

below_more : (d : Datum) (ds : List Datum) (m : ℕ) (e : Datum) → IsRising ds → slice_get ds m ≡ Some e → datum_cmp e d ≡ Less → AllBelow d (take (suc m) ds)
unfolding IsStrictlySortedBy
below_more d [] m e r h p = absurd (none-some e h)
below_more d (c ∷ cs) zero e r h p = (subst (λ x. datum_cmp x d ≡ Less) (sym (some_same c e h)) p, tt)
below_more d (c ∷ cs) (suc m) e r h p =
    (datum_cmp_total.trans c e d (all_at (λ y. datum_cmp c y ≡ Less) cs m e r.0 h) p, below_more d cs m e r.1 h p)

isn't_below : (c y d : Datum) (o : Ordering) → datum_cmp y d ≡ o → datum_cmp c y ≡ Less → is_lt (datum_cmp c d) ≡ false → is_lt o ≡ false
isn't_below c y d Less e l h = absurd (true≢false (sym (ap is_lt (datum_cmp_total.trans c y d l e)) ∙ h))
isn't_below c y d Equal e l h = refl
isn't_below c y d Greater e l h = refl

none_behind : (d c : Datum) (cs : List Datum) → AllByRecursion (λ y. datum_cmp c y ≡ Less) cs → is_lt (datum_cmp c d) ≡ false → NoneBelow d cs
none_behind d c [] l h = tt
none_behind d c (y ∷ ys) l h = (isn't_below c y d (datum_cmp y d) refl l.0 h, none_behind d c ys l.1 h)

none_more : (d : Datum) (ds : List Datum) (m : ℕ) (e : Datum) → IsRising ds → slice_get ds m ≡ Some e → is_lt (datum_cmp e d) ≡ false → NoneBelow d (drop m ds)
unfolding IsStrictlySortedBy
none_more d [] m e r h p = absurd (none-some e h)
none_more d (c ∷ cs) zero e r h p =
    let q : is_lt (datum_cmp c d) ≡ false = subst (λ x. is_lt (datum_cmp x d) ≡ false) (sym (some_same c e h)) p in
    (q, none_behind d c cs r.0 q)
none_more d (c ∷ cs) (suc m) e r h p = none_more d cs m e r.1 h p

less_from_lt : (o : Ordering) → is_lt o ≡ true → o ≡ Less
less_from_lt Less h = refl
less_from_lt Equal h = absurd (false≢true h)
less_from_lt Greater h = absurd (false≢true h)

pub raised : (d : Datum) (ds : List Datum) (low high m : ℕ) (e : Datum) → IsRising ds → IsBetween d ds low high → m < high → slice_get ds m ≡ Some e → is_lt (datum_cmp e d) ≡ true → IsBetween d ds (m + 1) high
raised d ds low high m e r b l h p = record {
  ordered = omega arith;
  within = b.within;
  before = subst (λ k. AllBelow d (take k ds)) {x = suc m} (omega arith) (below_more d ds m e r h (less_from_lt (datum_cmp e d) p));
  after = b.after;
}

pub lowered : (d : Datum) (ds : List Datum) (low high m : ℕ) (e : Datum) → IsRising ds → IsBetween d ds low high → low ≤ m → m < high → slice_get ds m ≡ Some e → is_lt (datum_cmp e d) ≡ false → IsBetween d ds low m
lowered d ds low high m e r b k l h p = record {
  ordered = k;
  within = omega (arith, b.within);
  before = b.before;
  after = none_more d ds m e r h p;
}

pub all_between : (d : Datum) (ds : List Datum) → IsBetween d ds 0 (length ds)
all_between d ds = record {
  ordered = omega arith;
  within = omega arith;
  before = tt;
  after = subst (NoneBelow d) (sym (none_left ds)) tt;
}
  where
    none_left : (ds : List Datum) → ◌≡◌ {A = List Datum} (drop (length ds) ds) []
    none_left [] = refl
    none_left (d ∷ ds) = none_left ds

pub bound_between : (d : Datum) (ds : List Datum) (low high : ℕ) → high ≤ low → IsBetween d ds low high → IsBound d ds low
bound_between d ds low high h b =
    let same : high ≡ low = omega (arith, b.ordered) in
    record { within = omega (arith, b.within); before = b.before; after = subst (λ k. NoneBelow d (drop k ds)) same b.after }

-- ---- the place of a datum that isn't there

greater_from : (o : Ordering) → is_lt o ≡ false → is_eq o ≡ false → o ≡ Greater
greater_from Less h k = absurd (true≢false h)
greater_from Equal h k = absurd (true≢false k)
greater_from Greater h k = refl

first_left : (P : Datum → Type 0) (ds : List Datum) (i : ℕ) (e : Datum) → slice_get ds i ≡ Some e → AllByRecursion P (drop i ds) → P e
first_left P [] i e h a = absurd (none-some e h)
first_left P (c ∷ cs) zero e h a = subst P (some_same c e h) a.0
first_left P (c ∷ cs) (suc i) e h a = first_left P cs i e h a

above_all : (d c : Datum) (cs : List Datum) → datum_cmp d c ≡ Less → AllByRecursion (λ y. datum_cmp c y ≡ Less) cs → AllByRecursion (λ y. datum_cmp d y ≡ Less) cs
above_all d c [] l a = tt
above_all d c (y ∷ ys) l a = (datum_cmp_total.trans d c y l a.0, above_all d c ys l a.1)

above_more : (d : Datum) (ds : List Datum) (i : ℕ) (e : Datum) → IsRising ds → slice_get ds i ≡ Some e → datum_cmp d e ≡ Less → AllByRecursion (λ y. datum_cmp d y ≡ Less) (drop i ds)
unfolding IsStrictlySortedBy
above_more d [] i e r h l = absurd (none-some e h)
above_more d (c ∷ cs) zero e r h l = let k : datum_cmp d c ≡ Less = subst (λ x. datum_cmp d x ≡ Less) (sym (some_same c e h)) l in (k, above_all d c cs k r.0)
above_more d (c ∷ cs) (suc i) e r h l = above_more d cs i e r.1 h l

pub absent_there : (d : Datum) (ds : List Datum) (i : ℕ) (e : Datum) → IsRising ds → IsBound d ds i → slice_get ds i ≡ Some e → is_eq (datum_cmp e d) ≡ false → IsPlace d ds i
absent_there d ds i e r b h n =
    let greater : datum_cmp e d ≡ Greater = greater_from (datum_cmp e d) (first_left (λ x. is_lt (datum_cmp x d) ≡ false) ds i e h b.after) n in
    let less : datum_cmp d e ≡ Less = datum_cmp_total.antisymm d e ∙ ap ordering_reverse greater in
    record { within = b.within; before = b.before; after = above_more d ds i e r h less }

pub absent_behind : (d : Datum) (ds : List Datum) (i : ℕ) → IsBound d ds i → slice_get ds i ≡ None → IsPlace d ds i
absent_behind d ds i b h = record { within = b.within; before = b.before; after = none_left (λ x. datum_cmp d x ≡ Less) ds i h }
  where
    none_left : (P : Datum → Type 0) (ds : List Datum) (i : ℕ) → slice_get ds i ≡ None → AllByRecursion P (drop i ds)
    none_left P [] zero h = tt
    none_left P [] (suc i) h = tt
    none_left P (c ∷ cs) zero h = absurd (none-some c (sym h))
    none_left P (c ∷ cs) (suc i) h = none_left P cs i h

-- ---- below the tuple of one datum

keeps_less : (o : Ordering) (ps : List (Option Datum)) → is_lt o ≡ is_lt (ordering_then o (parts_cmp (parts_of ps) no_part))
keeps_less Less ps = refl
keeps_less Equal [] = refl
keeps_less Equal (None ∷ ps) = refl
keeps_less Equal (Some d ∷ ps) = refl
keeps_less Greater ps = refl

pub starts_with : (ps : List (Option Datum)) (v x : Datum) → slice_get ps 0 ≡ Some (Some v) → is_lt (datum_cmp v x) ≡ is_lt (parts_cmp (parts_of ps) (part_then x no_part))
starts_with [] v x h = absurd (none-some (Some v) h)
starts_with (None ∷ ps) v x h = cc
starts_with (Some w ∷ ps) v x h =
    let same : v ≡ w = cc in
    ap (λ d. is_lt (datum_cmp d x)) same ∙ keeps_less (datum_cmp w x) ps

pub starts_without : (ps : List (Option Datum)) (x : Datum) → (slice_get ps 0 ≡ Some None) ⊎ (slice_get ps 0 ≡ None) → true ≡ is_lt (parts_cmp (parts_of ps) (part_then x no_part))
starts_without [] x h = refl
starts_without (None ∷ ps) x h = refl
starts_without (Some w ∷ ps) x (inl h) = cc
starts_without (Some w ∷ ps) x (inr h) = cc
