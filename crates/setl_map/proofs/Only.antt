-- The one image of a point, by the first pair that may be one of the point and the next one.
use Rattle.std.specs.Prelude.{◌≡◌, ℕ, suc, ◌+◌, ◌-◌, Bool, true, false, cond, List, [], ◌∷◌, Option, Some, None, take, drop, refl}
use Rattle.std.specs.List.{AllByRecursion, filter_map, cons_option, prefix_len}
use Rattle.std.proofs.Common.{ap, sym, ◌∙◌, arith}
use Rattle.setl_value.specs.Datum.{Datum}
use Rattle.setl_value.specs.Order.{IsRising}
use Rattle.setl_value.specs.code.Places as place
use Rattle.setl_map.specs.Maps.{only, image}
use Rattle.setl_map.specs.code.Points.{is_at, begins, part_at}
use Rattle.setl_map.proofs.Bounds.{from_point, past_leading}
use Rattle.setl_map.proofs.MapResults.{all_drop}
use Rattle.setl_map.proofs.PairFacts.{pair_of, IsPair}
use Rattle.setl_map.proofs.Spans.{split_by_bounds}

-- what the first of these pairs and the next one tell
abbrev pub only_leading : Datum → List Datum → Option Datum
only_leading x [] = None
only_leading x (d ∷ ds) = cond (is_at x d) (cond (begins x ds) None (part_at false d)) None

abbrev leading : Datum → List Datum → ℕ
leading x ds = prefix_len (is_at x) ds

abbrev seconds : List Datum → List Datum
seconds ds = filter_map (part_at false) ds

only_one : (o : Option Datum) → only (cons_option o []) ≡ o
only_one None = refl
only_one (Some d) = refl

second_is : (d : Datum) (p : IsPair d) → part_at false d ≡ Some (pair_of d p).1
second_is d p = ap (part_at false) (pair_of d p).2

one_more : (d : Datum) (n : ℕ) (ds : List Datum) → seconds (take (1 + n) (d ∷ ds)) ≡ cons_option (part_at false d) (seconds (take n ds))
one_more d n ds = ap (λ k. seconds (take k (d ∷ ds))) {x = 1 + n} {y = suc n} (omega arith)

two_of : (d e : Datum) (n : ℕ) (ds : List Datum) → IsPair d → IsPair e → only (cons_option (part_at false d) (seconds (take (1 + n) (e ∷ ds)))) ≡ None
two_of d e n ds p q =
    ap (λ l. only (cons_option (part_at false d) l)) (one_more e n ds ∙ ap (λ o. cons_option o (seconds (take n ds))) (second_is e q))
    ∙ ap (λ o. only (cons_option o ((pair_of e q).1 ∷ seconds (take n ds)))) (second_is d p)

next_by : (x d e : Datum) (ds : List Datum) (b : Bool) → IsPair d → IsPair e → is_at x e ≡ b
    → only (cons_option (part_at false d) (seconds (take (cond b (1 + leading x ds) 0) (e ∷ ds)))) ≡ cond b None (part_at false d)
next_by x d e ds true p q h = two_of d e (leading x ds) ds p q
next_by x d e ds false p q h = only_one (part_at false d)

next : (x d : Datum) (ds : List Datum) → IsPair d → AllByRecursion IsPair ds → only (cons_option (part_at false d) (seconds (take (leading x ds) ds))) ≡ cond (begins x ds) None (part_at false d)
next x d [] p a = only_one (part_at false d)
next x d (e ∷ ds) p a = next_by x d e ds (is_at x e) p a.0 refl

only_by : (x d : Datum) (ds : List Datum) (b : Bool) → IsPair d → AllByRecursion IsPair ds → is_at x d ≡ b
    → only (seconds (take (cond b (1 + leading x ds) 0) (d ∷ ds))) ≡ cond b (cond (begins x ds) None (part_at false d)) None
only_by x d ds true p a h = ap only (one_more d (leading x ds) ds) ∙ next x d ds p a
only_by x d ds false p a h = refl

only_of : (x : Datum) (ds : List Datum) → AllByRecursion IsPair ds → only (seconds (take (leading x ds) ds)) ≡ only_leading x ds
only_of x [] a = refl
only_of x (d ∷ ds) a = only_by x d ds (is_at x d) a.0 a.1 refl

pub image_at_point : (x : Datum) (ds : List Datum) (i : ℕ) → IsRising ds → AllByRecursion IsPair ds → place.IsBound (place.point x) ds i → image x ds ≡ only_leading x (drop i ds)
image_at_point x ds i r p b =
    let n = leading x (drop i ds) in
    let from = from_point x ds i p b in
    let s = split_by_bounds x ds i (i + n) p from (past_leading x ds i r p from) in
    ap (λ l. only (seconds l)) s.at ∙ ap (λ k. only (seconds (take k (drop i ds)))) {x = i + n - i} {y = n} (omega arith)
    ∙ only_of x (drop i ds) (all_drop IsPair i ds p)

-- ---- by what the code reads of the first pair and the next one

abbrev of_first : Bool → Bool → Option Datum → Option Datum
of_first b c o = cond b (cond c None o) None

pub not_first : (b c : Bool) (o : Option Datum) → None ≡ cond b o None → None ≡ of_first b c o
not_first true true o h = refl
not_first true false o h = h
not_first false c o h = refl

pub two_begin : (b c : Bool) (o : Option Datum) → c ≡ true → None ≡ of_first b c o
two_begin true c o h = ap (λ k. cond k None o) (sym h)
two_begin false c o h = refl

pub one_begins : (b c : Bool) (o : Option Datum) (y : Datum) → c ≡ false → Some y ≡ cond b o None → Some y ≡ of_first b c o
one_begins b c o y h e = e ∙ ap (λ k. cond b (cond k None o) None) (sym h)
