-- Where the one image of a point stands, and the map after it is changed there.
use Rattle.std.specs.Prelude.{◌≡◌, ℕ, zero, suc, ◌+◌, Bool, true, false, cond, List, [], ◌∷◌, ◌++◌, Option, Some, None, take, drop, refl, slice_get, slice_set}
use Rattle.std.specs.List.{AllByRecursion, insert, prefix_len}
use Rattle.std.specs.Option.{IfNone, unwrap_or}
use Rattle.std.proofs.Common.{ap, sym, ◌∙◌, arith, subst}
use Rattle.std.proofs.lemmas.List.{append_assoc, set_split}
use Rattle.std.proofs.lemmas.Option.{none-some, slice_get_within}
use Rattle.setl_value.specs.Datum.{Datum}
use Rattle.setl_value.specs.Order.{IsRising}
use Rattle.setl_value.specs.Pairs.{pair, pair_parts}
use Rattle.setl_value.specs.code.Places as place
use Rattle.setl_map.specs.Maps.{image, put_image}
use Rattle.setl_map.specs.code.Points.{IsBound, is_at, begins, part_at}
use Rattle.setl_map.proofs.Bounds.{from_point, past_leading}
use Rattle.setl_map.proofs.MapResults.{all_drop, of_point, put_between}
use Rattle.setl_map.proofs.Only.{only_leading, image_at_point}
use Rattle.setl_map.proofs.PairFacts.{IsPair}
use Rattle.setl_map.proofs.Spans.{split_by_bounds}

pub pair_same : (a b c d : Datum) → pair a b ≡ pair c d → (a ≡ c) × (b ≡ d)
pair_same a b c d h = (ap (λ p. (unwrap_or (pair_parts p) (a, b)).0) h, ap (λ p. (unwrap_or (pair_parts p) (a, b)).1) h)

first_dropped : {X : Type 0} (xs : List X) (i : ℕ) (y : X) (rest : List X) → drop i xs ≡ y ∷ rest → slice_get xs i ≡ Some y
first_dropped [] zero y rest h = ap (λ l. slice_get l 0) h
first_dropped [] (suc i) y rest h = ap (λ l. slice_get l 0) h
first_dropped (x ∷ xs) zero y rest h = ap (λ l. slice_get l 0) h
first_dropped (x ∷ xs) (suc i) y rest h = first_dropped xs i y rest h

-- the first of these is the pair of x and d, and the next one is no pair of x
record LeadsAlone (x d : Datum) (ds : List Datum) : Type 0 where
  pub rest : List Datum
  pub is : ds ≡ pair x d ∷ rest
  pub at : is_at x (pair x d) ≡ true
  pub alone : begins x rest ≡ false

leads_by : (x d m : Datum) (rest : List Datum) (b c : Bool) → IsPair m → is_at x m ≡ b → begins x rest ≡ c → cond b (cond c None (part_at false m)) None ≡ Some d → LeadsAlone x d (m ∷ rest)
leads_by x d m rest false c p a t h = absurd (none-some d h)
leads_by x d m rest true true p a t h = absurd (none-some d h)
leads_by x d m rest true false p a t h =
    let o = of_point x m p a in
    let second : o.0 ≡ d = ap (λ s. unwrap_or s o.0) (sym (ap (part_at false) o.1) ∙ h) in
    let is : m ≡ pair x d = o.1 ∙ ap (pair x) second in
    record { rest = rest; is = ap (λ z. z ∷ rest) is; at = sym (ap (is_at x) is) ∙ a; alone = t }

leads : (x d : Datum) (ds : List Datum) → AllByRecursion IsPair ds → only_leading x ds ≡ Some d → LeadsAlone x d ds
leads x d [] p h = absurd (none-some d h)
leads x d (m ∷ rest) p h = leads_by x d m rest (is_at x m) (begins x rest) p.0 refl refl h

none_leads : (x : Datum) (ds : List Datum) → begins x ds ≡ false → prefix_len (is_at x) ds ≡ 0
none_leads x [] h = refl
none_leads x (d ∷ ds) h = ap (λ b. cond b (1 + prefix_len (is_at x) ds) 0) h

one_leads : (x d : Datum) (ds : List Datum) → LeadsAlone x d ds → prefix_len (is_at x) ds ≡ 1
one_leads x d ds l =
    ap (prefix_len (is_at x)) l.is ∙ ap (λ b. cond b (1 + prefix_len (is_at x) l.rest) 0) l.at ∙ omega (arith, none_leads x l.rest l.alone)

pub one_image : (x d : Datum) (ds : List Datum) (i : ℕ) → IsRising ds → AllByRecursion IsPair ds → place.IsBound (place.point x) ds i → image x ds ≡ Some d
    → (slice_get ds i ≡ Some (pair x d)) × ((e : Datum) → slice_set ds i (pair x e) ≡ put_image x (Some e) ds)
one_image x d ds i r p b h =
    let l = leads x d (drop i ds) (all_drop IsPair i ds p) (sym (image_at_point x ds i r p b) ∙ h) in
    let there = first_dropped ds i (pair x d) l.rest l.is in
    let from = from_point x ds i p b in
    let to : IsBound true x ds (i + 1) = subst (λ n. IsBound true x ds (i + n)) (one_leads x d (drop i ds) l) (past_leading x ds i r p from) in
    let split = split_by_bounds x ds i (i + 1) p from to in (
      there,
      λ e. set_split ds i (pair x e) (slice_get_within ds i (pair x d) there) ∙ ap (λ n. take i ds ++ pair x e ∷ drop n ds) {x = suc i} {y = i + 1} (omega arith)
          ∙ sym (append_assoc (take i ds) (pair x e ∷ []) (drop (i + 1) ds)) ∙ put_between x e ds i (i + 1) p from to split,
    )

inserted : {X : Type 0} (xs : List X) (i : ℕ) (y : X) → insert xs i y ≡ take i xs ++ y ∷ drop i xs
inserted [] zero y = refl
inserted [] (suc i) y = refl
inserted (x ∷ xs) zero y = refl
inserted (x ∷ xs) (suc i) y = ap (λ l. x ∷ l) (inserted xs i y)

-- where x has no pairs, the pair of x and y is put before what comes behind x
pub put_alone : (x y : Datum) (ds : List Datum) (i : ℕ) → AllByRecursion IsPair ds → IsBound false x ds i → IsBound true x ds i → insert ds i (pair x y) ≡ put_image x (Some y) ds
put_alone x y ds i p from to =
    inserted ds i (pair x y) ∙ sym (append_assoc (take i ds) (pair x y ∷ []) (drop i ds)) ∙ put_between x y ds i i p from to (split_by_bounds x ds i i p from to)

-- what follows from what a clause says of a closure that wasn't called
pub none_then : {R P Q : Type 0} (o : Option R) → (P → Q) → IfNone o P → IfNone o Q
none_then None f h = f h
none_then (Some r) f h = h
