-- The values of some operands.
use Rattle.std.specs.Prelude.{◌≡◌, ℕ, zero, suc, ◌+◌, ◌<◌, ◌≤◌, List, [], ◌∷◌, ◌++◌, Option, Some, None, map, max, length, take, refl}
use Rattle.std.proofs.Common.{ap, sym, ◌∙◌, arith, get_or}
use Rattle.std.proofs.lemmas.List.{map-append, take_more}
use Rattle.setl_value.specs.declared.Value.{Value}
use Rattle.setl_value.specs.Datum.{Datum, depth, elements_depth, elements_of, part_depth, parts_depth, parts_of}
use Rattle.setl_value.specs.WellFormed.{trim, trim_onto}
use Rattle.setl_value.specs.code.DatumOf.{datum, part}
use Rattle.setl_operators_table.specs.Outcome.{all_values, one_more}

more_snoc : (e : Datum) (d : Datum) (r : Option (List Datum)) (s : Option (List Datum)) (ds : List Datum) → ((es : List Datum) → r ≡ Some es → s ≡ Some (es ++ d ∷ [])) → one_more e r ≡ Some ds → one_more e s ≡ Some (ds ++ d ∷ [])
more_snoc e d None s ds h g = cc
more_snoc e d (Some es) s ds h g = ap (one_more e) (h es refl) ∙ ap (λ l. Some (l ++ d ∷ [])) (let k : e ∷ es ≡ ds = cc in k)

all_snoc : (ps : List (Option Datum)) (d : Datum) (ds : List Datum) → all_values ps ≡ Some ds → all_values (ps ++ Some d ∷ []) ≡ Some (ds ++ d ∷ [])
all_snoc [] d [] h = refl
all_snoc [] d (e ∷ ds) h = cc
all_snoc (None ∷ ps) d ds h = cc
all_snoc (Some e ∷ ps) d ds h = more_snoc e d (all_values ps) (all_values (ps ++ Some d ∷ [])) ds (λ es q. all_snoc ps d es q) h

none_at : (os : List (Option Value)) (i : ℕ) (o : Option Value) → i < length os → o ≡ get_or os i o → part o ≡ None → all_values (map part os) ≡ None
none_at [] i o l e n = absurd (omega arith)
none_at (p ∷ os) zero o l e n = by_first (part p) (ap part (sym e) ∙ n)
  where
    by_first : (q : Option Datum) → q ≡ None → all_values (q ∷ map part os) ≡ None
    by_first None h = refl
    by_first (Some d) h = cc
none_at (None ∷ os) (suc i) o l e n = refl
none_at (Some v ∷ os) (suc i) o l e n = ap (one_more (datum v)) (none_at os i o (omega arith) e n)

pub some_none : (os : List (Option Value)) (i : ℕ) (o : Option Value) → i < length os → o ≡ get_or os i o → o ≡ None → all_values (map part os) ≡ None
some_none os i o l e n = none_at os i o l e (ap part n)

pub one_value_more : (os : List (Option Value)) (i : ℕ) (o : Option Value) (v : Value) (ds : List Datum) → i < length os → o ≡ get_or os i o → o ≡ Some v
    → all_values (map part (take i os)) ≡ Some ds → all_values (map part (take (i + 1) os)) ≡ Some (ds ++ datum v ∷ [])
one_value_more os i o v ds l e is h =
    ap (λ xs. all_values (map part xs)) (take_more os i o l) ∙ ap all_values (map-append part (take i os) (get_or os i o ∷ []))
    ∙ ap (λ p. all_values (map part (take i os) ++ p ∷ [])) (ap part (sym e ∙ is)) ∙ all_snoc (map part (take i os)) (datum v) ds h

depth_append : (xs ys : List Datum) → elements_depth (elements_of (xs ++ ys)) ≡ max (elements_depth (elements_of xs)) (elements_depth (elements_of ys))
depth_append [] ys = omega arith
depth_append (x ∷ xs) ys = omega (arith, depth_append xs ys)

pub depth_more : (vs : List Value) (i : ℕ) (v : Value) → i < length vs → v ≡ get_or vs i v
    → elements_depth (elements_of (map datum (take (i + 1) vs))) ≡ max (elements_depth (elements_of (map datum (take i vs)))) (depth (datum v))
depth_more vs i v l e =
    ap (λ xs. elements_depth (elements_of (map datum xs))) (take_more vs i v l) ∙ ap (λ xs. elements_depth (elements_of xs)) (map-append datum (take i vs) (get_or vs i v ∷ []))
    ∙ omega (arith, depth_append (map datum (take i vs)) (datum (get_or vs i v) ∷ []), ap (λ w. depth (datum w)) e)

pub depth_at : (vs : List Value) (i : ℕ) (v : Value) → i < length vs → v ≡ get_or vs i v → depth (datum v) ≤ elements_depth (elements_of (map datum vs))
depth_at [] i v l e = absurd (omega arith)
depth_at (w ∷ vs) zero v l e = omega (arith, ap (λ u. depth (datum u)) e)
depth_at (w ∷ vs) (suc i) v l e = omega (arith, depth_at vs i v (omega arith) e)

-- ---- components

parts_append : (ps : List (Option Datum)) (p : Option Datum) → parts_depth (parts_of (ps ++ p ∷ [])) ≡ max (parts_depth (parts_of ps)) (part_depth p)
parts_append [] None = omega arith
parts_append [] (Some d) = omega arith
parts_append (None ∷ ps) p = parts_append ps p
parts_append (Some e ∷ ps) p = omega (arith, parts_append ps p)

pub parts_more : (os : List (Option Value)) (i : ℕ) (o : Option Value) → i < length os → o ≡ get_or os i o
    → parts_depth (parts_of (map part (take (i + 1) os))) ≡ max (parts_depth (parts_of (map part (take i os)))) (part_depth (part o))
parts_more os i o l e =
    ap (λ xs. parts_depth (parts_of (map part xs))) (take_more os i o l) ∙ ap (λ xs. parts_depth (parts_of xs)) (map-append part (take i os) (get_or os i o ∷ []))
    ∙ omega (arith, parts_append (map part (take i os)) (part (get_or os i o)), ap (λ w. part_depth (part w)) e)

parts_cons : (p : Option Datum) (ps : List (Option Datum)) → parts_depth (parts_of (p ∷ ps)) ≡ max (part_depth p) (parts_depth (parts_of ps))
parts_cons None ps = omega arith
parts_cons (Some d) ps = omega arith

pub parts_at : (os : List (Option Value)) (i : ℕ) (o : Option Value) → i < length os → o ≡ get_or os i o → part_depth (part o) ≤ parts_depth (parts_of (map part os))
parts_at [] i o l e = absurd (omega arith)
parts_at (p ∷ os) zero o l e = omega (arith, ap (λ u. part_depth (part u)) e, parts_cons (part p) (map part os))
parts_at (p ∷ os) (suc i) o l e = omega (arith, parts_at os i o (omega arith) e, parts_cons (part p) (map part os))

trim_onto_depth : (p : Option Datum) (qs : List (Option Datum)) → parts_depth (parts_of (trim_onto p qs)) ≡ max (part_depth p) (parts_depth (parts_of qs))
trim_onto_depth None [] = omega arith
trim_onto_depth (Some d) qs = omega arith
trim_onto_depth None (q ∷ qs) = parts_cons None (q ∷ qs)

pub trim_depth : (ps : List (Option Datum)) → parts_depth (parts_of (trim ps)) ≡ parts_depth (parts_of ps)
trim_depth [] = refl
trim_depth (p ∷ ps) = omega (arith, trim_onto_depth p (trim ps), trim_depth ps, parts_cons p ps)
