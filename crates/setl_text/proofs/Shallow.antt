-- The sets and tuples that are open, and how deep they are.
use Rattle.std.proofs.Common.{◌≡◌, ℕ, suc, ◌+◌, ◌≤◌, max, List, [], ◌∷◌, ◌++◌, map, length, reverse, refl, sym, ap, subst, ◌∙◌, arith, Some, None, Option}
use Rattle.std.proofs.lemmas.List.{reverse-append, map-append, length-reverse}
use Rattle.std.specs.declared.cmp.Ordering.{Ordering}
use Rattle.std.specs.declared.cmp.Ordering.TheVariants.{Less, Equal, Greater}
use Rattle.setl_set.specs.Sets.{set_from, insert_datum, insert_by}
use Rattle.setl_value.specs.declared.Value.{Value}
use Rattle.setl_value.specs.Datum.{Datum, depth, part_depth, parts_depth, parts_of, elements_depth, elements_of}
use Rattle.setl_value.specs.code.DatumOf.{datum}
use Rattle.setl_value.specs.Order.{datum_cmp}
use Rattle.setl_value.specs.WellFormed.{trim, trim_onto}
use Rattle.setl_text.specs.Bytes.{Bracket, Brace, Square}
use Rattle.setl_text.specs.Denoted.{present}
use Rattle.setl_text.specs.Reading.{Open, opened, Inside, put_value}
use Rattle.setl_text.specs.code.Scans.{open_of, opens, IsShallow}
use Rattle.setl_text.specs.declared.place.Collection.{Collection}

pub opens-push : (cs : List Collection) (c : Collection) → opens (cs ++ c ∷ []) ≡ open_of c ∷ opens cs
opens-push cs c = ap reverse (map-append open_of cs (c ∷ [])) ∙ reverse-append (map open_of cs) (open_of c ∷ [])

length-map : {A B : Type 0} (f : A → B) (xs : List A) → length (map f xs) ≡ length xs
length-map f [] = refl
length-map f (x ∷ xs) = ap suc (length-map f xs)

pub length-opens : (cs : List Collection) → length (opens cs) ≡ length cs
length-opens cs = length-reverse (map open_of cs) ∙ length-map open_of cs

shallow_few : (os : List Open) → IsShallow os → length os ≤ 500
shallow_few [] h = omega arith
shallow_few (opened k got ∷ os) h = omega (arith, h.0)

-- a value without sets and tuples can be placed
pub flat_fits : (cs : List Collection) (n : ℕ) → n ≡ 0 → IsShallow (opens cs) → n + length cs ≤ 500
flat_fits cs n flat h = omega (arith, shallow_few (opens cs) h, length-opens cs)

parts_depth-push : (ps : List (Option Datum)) (p : Option Datum) → parts_depth (parts_of (ps ++ p ∷ [])) ≡ max (parts_depth (parts_of ps)) (part_depth p)
parts_depth-push [] None = refl
parts_depth-push [] (Some d) = omega arith
parts_depth-push (None ∷ ps) p = parts_depth-push ps p
parts_depth-push (Some d ∷ ps) p = omega (arith, parts_depth-push ps p)

inner_same : (o p : Open) (os : List Open) → Inside (o ∷ os) ≡ Inside (p ∷ os) → o ≡ p
inner_same o p os e = cc

-- what was placed keeps the bound on the depth
grown_shallow : (v : Option Datum) (o grown : Open) (os : List Open) → put_value v (o ∷ os) ≡ Inside (grown ∷ os) → IsShallow (o ∷ os) → part_depth v + suc (length os) ≤ 500 → IsShallow (grown ∷ os)
grown_shallow None (opened Brace got) grown os e h fits = absurd (cc)
grown_shallow None (opened Square got) grown os e h fits =
    subst (λ p. IsShallow (p ∷ os)) (inner_same _ grown os e) (omega (arith, h.0, parts_depth-push got None), h.1)
grown_shallow (Some d) (opened k got) grown os e h fits =
    subst (λ p. IsShallow (p ∷ os)) (inner_same _ grown os e) (omega (arith, h.0, parts_depth-push got (Some d)), h.1)

-- the innermost one is taken off, grows and is put back
pub placed_inside : (v : Option Datum) (old rest new : List Collection) (c grown : Collection) → old ≡ rest ++ c ∷ [] → new ≡ rest ++ grown ∷ []
    → ((os : List Open) → put_value v (open_of c ∷ os) ≡ Inside (open_of grown ∷ os)) → IsShallow (opens old) → part_depth v + length old ≤ 500
    → (put_value v (opens old) ≡ Inside (opens new)) × IsShallow (opens new)
placed_inside v old rest new c grown was is grows h fits =
    let before = ap opens was ∙ opens-push rest c in
    let after = ap opens is ∙ opens-push rest grown in
    let shallow = subst IsShallow before h in
    let few : part_depth v + suc (length (opens rest)) ≤ 500 = omega (arith, fits, length-opens old, ap length before, length-opens rest) in
    (ap (put_value v) before ∙ grows (opens rest) ∙ ap Inside (sym after), subst IsShallow (sym after) (grown_shallow v (open_of c) (open_of grown) (opens rest) (grows (opens rest)) shallow few))

-- what is left when the innermost one is taken off
pub popped : (old rest : List Collection) (c : Collection) → old ≡ rest ++ c ∷ [] → opens old ≡ open_of c ∷ opens rest
popped old rest c was = ap opens was ∙ opens-push rest c

-- ---- the depth of what is closed

pub closed_is : (old rest : List Collection) (c : Collection) (k : Bracket) (got : List (Option Datum)) → old ≡ rest ++ c ∷ [] → open_of c ≡ opened k got → opens old ≡ opened k got ∷ opens rest
closed_is old rest c k got was is = popped old rest c was ∙ ap (λ o. o ∷ opens rest) is

pub closed_bound : (old rest : List Collection) (c : Collection) (k : Bracket) (got : List (Option Datum)) → old ≡ rest ++ c ∷ [] → open_of c ≡ opened k got → IsShallow (opens old) → 1 + parts_depth (parts_of got) + length rest ≤ 500
closed_bound old rest c k got was is h =
    let bound = subst IsShallow (closed_is old rest c k got was is) h in
    omega (arith, bound.0, length-opens rest)

pub present-values : (vs : List Value) → present (map (λ v. Some (datum v)) vs) ≡ map datum vs
present-values [] = refl
present-values (v ∷ vs) = ap (λ ds. datum v ∷ ds) (present-values vs)

pub depth_values : (vs : List Value) → parts_depth (parts_of (map (λ v. Some (datum v)) vs)) ≡ elements_depth (elements_of (map datum vs))
depth_values [] = refl
depth_values (v ∷ vs) = ap (max (depth (datum v))) (depth_values vs)

depth_insert_by : (o : Ordering) (d e : Datum) (es more : List Datum) → elements_depth (elements_of more) ≤ max (depth d) (elements_depth (elements_of es)) → elements_depth (elements_of (insert_by o d e es more)) ≤ max (depth d) (max (depth e) (elements_depth (elements_of es)))
depth_insert_by Less d e es more h = omega arith
depth_insert_by Equal d e es more h = omega arith
depth_insert_by Greater d e es more h = omega arith

depth_insert : (d : Datum) (es : List Datum) → elements_depth (elements_of (insert_datum d es)) ≤ max (depth d) (elements_depth (elements_of es))
depth_insert d [] = omega arith
depth_insert d (e ∷ es) = depth_insert_by (datum_cmp d e) d e es (insert_datum d es) (depth_insert d es)

pub depth_set_from : (ds : List Datum) → elements_depth (elements_of (set_from ds)) ≤ elements_depth (elements_of ds)
depth_set_from [] = omega arith
depth_set_from (d ∷ ds) = omega (arith, depth_insert d (set_from ds), depth_set_from ds)

depth_trim_onto : (p : Option Datum) (ps : List (Option Datum)) → parts_depth (parts_of (trim_onto p ps)) ≤ parts_depth (parts_of (p ∷ ps))
depth_trim_onto None [] = omega arith
depth_trim_onto (Some d) ps = omega arith
depth_trim_onto None (p ∷ ps) = omega arith

depth_cons : (p : Option Datum) (ps qs : List (Option Datum)) → parts_depth (parts_of ps) ≤ parts_depth (parts_of qs) → parts_depth (parts_of (p ∷ ps)) ≤ parts_depth (parts_of (p ∷ qs))
depth_cons None ps qs h = h
depth_cons (Some d) ps qs h = omega arith

pub depth_trim : (ps : List (Option Datum)) → parts_depth (parts_of (trim ps)) ≤ parts_depth (parts_of ps)
depth_trim [] = omega arith
depth_trim (p ∷ ps) = omega (arith, depth_trim_onto p (trim ps), depth_cons p (trim ps) ps (depth_trim ps))
