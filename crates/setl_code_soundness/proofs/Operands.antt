-- Operands of a shape have what instructions pop.
use Rattle.std.proofs.Common.{◌≡◌, ℕ, zero, suc, Bool, true, false, List, [], ◌∷◌, Option, Some, None, refl, sym, ap, subst}
use Rattle.std.specs.Prelude.{◌&&◌, ◌||◌, ◌==◌, ◌-ℤ◌, unsigned_abs, cond}
use Rattle.setl_value.specs.Datum.{Datum, int, text, tuple, set, element_list, part_list}
use Rattle.setl_value.specs.Pairs.{is_map}
use Rattle.setl_set.specs.Sets.{set_from}
use Rattle.setl_operators_table.specs.Outcome.{Fault, KindFault, ZeroFault, all_values}
use Rattle.setl_operators_table.specs.Ranges.{range_from, step_from}
use Rattle.setl_map.specs.Maps.{domain_of}
use Rattle.setl_program.specs.declared.kinds.Collection.{Collection}
use Rattle.setl_program.specs.declared.kinds.Source.TheVariants.{Values, Between, SetSteps, TupleSteps}
use Rattle.setl_tree.specs.declared.tree.Passing.{Passing}
use Rattle.setl_tree.specs.declared.tree.Passing.TheVariants.{Rd, Wr, Rw}
use Rattle.setl_model_runs.specs.Variable.{is_variable}
use Rattle.setl_model_runs.specs.VariableLaws.{variable_itself}
use Rattle.setl_model_runs.specs.Run.{Move}
use Rattle.setl_program.specs.Program.{Begin, Members, Points, Parameter}
use Rattle.setl_model.specs.Calls.{parameter}
use Rattle.setl_model.specs.Collections.{refusal}
use Rattle.setl_model.specs.Iterations.{Started, Starts, Refuses, items_of, of_values, one_source, values_of, points_of, integers_between, integers_stepped, members, singles, letters, map_points, place_points}
use Rattle.setl_code.specs.CodeCore.{There, Gone, Held, Cells, held_in, Operand, Result, Iterator, PairIterator, Collecting, Pops, popped, without_iterators, CodeCore}
use Rattle.setl_code.specs.Machine.{on_top, iterator, Added, Adds, Refused, Nowhere, add_by, below, added, first_parts, hand, push_held, handed_back}
use Rattle.setl_code.specs.Shapes.{Kind, AResult, ACollection, AnIterator, APairIterator, Shape, serves, all_serve, lead, after, if_collection, without_results, without_levels, results, one_more, handed, iterator_kind}
use Rattle.setl_code.specs.Sound.{Table, is_fine, all_said, is_back, is_handed}
use Rattle.setl_code.specs.Ready.{AllSingle, AllPairs, HasKind, HaveShape}
use Rattle.setl_code_soundness.proofs.Laying.{parts}

-- ---- what fine steps have

-- the shape that a fine step leaves is there
pub led : (T : Table) (o : Option Shape) (f : Shape → List (ℕ × Shape)) → is_fine T (lead o f) ≡ true → (t : Shape) × (o ≡ Some t) × (all_said T (f t) ≡ true)
led T None f h = cc
led T (Some t) f h = (t, refl, h)

pub after_some : (o : Option Shape) (f : Shape → Option Shape) (t : Shape) → after o f ≡ Some t → (s : Shape) × (o ≡ Some s) × (f s ≡ Some t)
after_some None f t h = cc
after_some (Some s) f t h = (s, refl, h)

-- ---- operands of a shape

kind_on : (o : Operand) (k l : Kind) → HasKind o k → serves k l ≡ true → HasKind o l
kind_on (Result v) AResult AResult h g = tt
kind_on (Collecting c got) AResult AResult h g = tt
kind_on (Collecting c got) ACollection AResult h g = tt
kind_on (Collecting c got) ACollection ACollection h g = tt
kind_on (Iterator items) AnIterator AnIterator h g = h
kind_on (PairIterator items) APairIterator APairIterator h g = h
kind_on o AResult ACollection h g = cc
kind_on o AResult AnIterator h g = cc
kind_on o AResult APairIterator h g = cc
kind_on o ACollection AnIterator h g = cc
kind_on o ACollection APairIterator h g = cc
kind_on o AnIterator AResult h g = cc
kind_on o AnIterator ACollection h g = cc
kind_on o AnIterator APairIterator h g = cc
kind_on o APairIterator AResult h g = cc
kind_on o APairIterator ACollection h g = cc
kind_on o APairIterator AnIterator h g = cc
kind_on o k l h g = absurd h

-- a shape that serves is that of the same operands
pub shape_on : (xs : List Operand) (s t : Shape) → HaveShape xs s → all_serve s t ≡ true → HaveShape xs t
shape_on [] [] [] h g = tt
shape_on (o ∷ xs) (k ∷ s) (l ∷ t) h g = let two = parts (serves k l) (all_serve s t) g in (kind_on o k l h.0 two.0, shape_on xs s t h.1 two.1)
shape_on [] [] (l ∷ t) h g = cc
shape_on (o ∷ xs) (k ∷ s) [] h g = cc
shape_on [] (k ∷ s) t h g = absurd h
shape_on (o ∷ xs) [] t h g = absurd h

-- a result on top
pub record Topped (xs : List Operand) (t : Shape) : Type 0 where
  pub value : Option Datum
  pub rest : List Operand
  pub is : (f : Option Datum → List Operand → Move CodeCore) → on_top xs f ≡ f value rest
  pub shape : HaveShape rest t

pub topped : (xs : List Operand) (s t : Shape) → HaveShape xs s → without_results 1 s ≡ Some t → Topped xs t
topped (Result v ∷ xs) (AResult ∷ s) t h g = let same : s ≡ t = cc in record { value = v; rest = xs; is = λ f. refl; shape = subst (HaveShape xs) same h.1 }
topped (Collecting k got ∷ xs) (AResult ∷ s) t h g = let same : s ≡ t = cc in record { value = _; rest = xs; is = λ f. refl; shape = subst (HaveShape xs) same h.1 }
topped (Collecting k got ∷ xs) (ACollection ∷ s) t h g = let same : s ≡ t = cc in record { value = _; rest = xs; is = λ f. refl; shape = subst (HaveShape xs) same h.1 }
topped xs [] t h g = cc
topped xs (AnIterator ∷ s) t h g = cc
topped xs (APairIterator ∷ s) t h g = cc
topped [] (k ∷ s) t h g = absurd h
topped (o ∷ xs) (k ∷ s) t h g = absurd h.0

-- so many results
pub record Popping (n : ℕ) (vs : List (Option Datum)) (xs : List Operand) (t : Shape) : Type 0 where
  pub values : List (Option Datum)
  pub rest : List Operand
  pub is : popped n vs xs ≡ Pops values rest
  pub shape : HaveShape rest t

pub popping : (n : ℕ) (vs : List (Option Datum)) (xs : List Operand) (s t : Shape) → HaveShape xs s → without_results n s ≡ Some t → Popping n vs xs t
popping zero vs xs s t h g = let same : s ≡ t = cc in record { values = vs; rest = xs; is = refl; shape = subst (HaveShape xs) same h }
popping (suc n) vs (Result v ∷ xs) (AResult ∷ s) t h g = let r = popping n (v ∷ vs) xs s t h.1 g in record { values = r.values; rest = r.rest; is = r.is; shape = r.shape }
popping (suc n) vs (Collecting k got ∷ xs) (AResult ∷ s) t h g = let r = popping n (_ ∷ vs) xs s t h.1 g in record { values = r.values; rest = r.rest; is = r.is; shape = r.shape }
popping (suc n) vs (Collecting k got ∷ xs) (ACollection ∷ s) t h g = let r = popping n (_ ∷ vs) xs s t h.1 g in record { values = r.values; rest = r.rest; is = r.is; shape = r.shape }
popping (suc n) vs xs [] t h g = cc
popping (suc n) vs xs (AnIterator ∷ s) t h g = cc
popping (suc n) vs xs (APairIterator ∷ s) t h g = cc
popping (suc n) vs [] (k ∷ s) t h g = absurd h
popping (suc n) vs (o ∷ xs) (k ∷ s) t h g = absurd h.0

-- so many iterators
pub leaving : (n : ℕ) (xs : List Operand) (s t : Shape) → HaveShape xs s → without_levels n s ≡ Some t → (ys : List Operand) × (without_iterators n xs ≡ Some ys) × HaveShape ys t
leaving zero xs s t h g = let same : s ≡ t = cc in (xs, refl, subst (HaveShape xs) same h)
leaving (suc n) (Iterator items ∷ xs) (AnIterator ∷ s) t h g = leaving n xs s t h.1 g
leaving (suc n) (PairIterator items ∷ xs) (APairIterator ∷ s) t h g = leaving n xs s t h.1 g
leaving (suc n) xs [] t h g = cc
leaving (suc n) xs (AResult ∷ s) t h g = cc
leaving (suc n) xs (ACollection ∷ s) t h g = cc
leaving (suc n) [] (k ∷ s) t h g = absurd h
leaving (suc n) (o ∷ xs) (k ∷ s) t h g = absurd h.0

-- the first parts of a tuple
pub parted : (n : ℕ) (ps : List (Option Datum)) (xs : List Operand) (s : Shape) → HaveShape xs s → HaveShape (first_parts n ps xs) (results n s)
parted zero ps xs s h = h
parted (suc n) [] xs s h = (tt, parted n [] xs s h)
parted (suc n) (p ∷ ps) xs s h = (tt, parted n ps xs s h)

-- ---- a value is added to a collection

abbrev pub IsAdded : Shape → Added → Type 0
IsAdded t (Adds ys) = HaveShape ys t
IsAdded t (Refused fault) = Unit {0}
IsAdded t Nowhere = ⊥

kept_below : (o : Operand) (k : Kind) (t : Shape) (a : Added) → HasKind o k → IsAdded t a → IsAdded (k ∷ t) (below o a)
kept_below o k t (Adds ys) h g = (h, g)
kept_below o k t (Refused fault) h g = tt
kept_below o k t Nowhere h g = absurd g

collected : (r : Option Fault) (k : Collection) (got : List (Option Datum)) (xs : List Operand) (s : Shape) → HaveShape xs s → IsAdded (ACollection ∷ s) (add_by r (Collecting k got) xs)
collected None k got xs s h = (tt, h)
collected (Some fault) k got xs s h = tt

-- there is a collection, whatever is said of it
has_collection : (u s t w : Shape) → if_collection u (Some t) ≡ Some w → if_collection u (Some s) ≡ Some s
has_collection (ACollection ∷ u) s t w c = refl
has_collection [] s t w c = cc
has_collection (AResult ∷ u) s t w c = cc
has_collection (AnIterator ∷ u) s t w c = cc
has_collection (APairIterator ∷ u) s t w c = cc

pub adding : (n : ℕ) (v : Option Datum) (xs : List Operand) (t u w : Shape) → HaveShape xs t → without_levels n t ≡ Some u → if_collection u (Some t) ≡ Some w → IsAdded t (added n v xs)
adding zero v (Collecting k got ∷ xs) (ACollection ∷ s) u w h g c = collected (refusal k v) k (v ∷ got) xs s h.1
adding zero v xs [] u w h g c = let same : [] ≡ u = cc in let no : if_collection [] (Some []) ≡ Some w = subst (λ m. if_collection m (Some []) ≡ Some w) (sym same) c in cc
adding zero v xs (AResult ∷ s) u w h g c = let same : AResult ∷ s ≡ u = cc in let no : if_collection (AResult ∷ s) (Some (AResult ∷ s)) ≡ Some w = subst (λ m. if_collection m (Some (AResult ∷ s)) ≡ Some w) (sym same) c in cc
adding zero v xs (AnIterator ∷ s) u w h g c = let same : AnIterator ∷ s ≡ u = cc in let no : if_collection (AnIterator ∷ s) (Some (AnIterator ∷ s)) ≡ Some w = subst (λ m. if_collection m (Some (AnIterator ∷ s)) ≡ Some w) (sym same) c in cc
adding zero v xs (APairIterator ∷ s) u w h g c = let same : APairIterator ∷ s ≡ u = cc in let no : if_collection (APairIterator ∷ s) (Some (APairIterator ∷ s)) ≡ Some w = subst (λ m. if_collection m (Some (APairIterator ∷ s)) ≡ Some w) (sym same) c in cc
adding zero v [] (ACollection ∷ s) u w h g c = absurd h
adding zero v (o ∷ xs) (ACollection ∷ s) u w h g c = absurd h.0
adding (suc n) v (Iterator items ∷ xs) (AnIterator ∷ s) u w h g c = kept_below (Iterator items) AnIterator s (added n v xs) h.0 (adding n v xs s u s h.1 g (has_collection u s (AnIterator ∷ s) w c))
adding (suc n) v (PairIterator items ∷ xs) (APairIterator ∷ s) u w h g c = kept_below (PairIterator items) APairIterator s (added n v xs) h.0 (adding n v xs s u s h.1 g (has_collection u s (APairIterator ∷ s) w c))
adding (suc n) v xs [] u w h g c = cc
adding (suc n) v xs (AResult ∷ s) u w h g c = cc
adding (suc n) v xs (ACollection ∷ s) u w h g c = cc
adding (suc n) v [] (k ∷ s) u w h g c = absurd h
adding (suc n) v (o ∷ xs) (k ∷ s) u w h g c = absurd h.0

-- ---- items

-- items of the kind of their iterator
abbrev pub AllOf : Begin → Started → Type 0
AllOf b (Starts items) = HasKind (iterator b items) (iterator_kind b)
AllOf b (Refuses fault) = Unit {0}

valued : (b : Begin) (f : List Datum → Started) → ((ds : List Datum) → AllOf b (f ds)) → (o : Option (List Datum)) → AllOf b (of_values f o)
valued b f each None = tt
valued b f each (Some ds) = each ds

sourced : (b : Begin) (f : Datum → Started) → ((d : Datum) → AllOf b (f d)) → (ds : List Datum) → AllOf b (one_source f ds)
sourced b f each [] = tt
sourced b f each (d ∷ []) = each d
sourced b f each (d ∷ e ∷ ds) = tt

all_members : (ds : List Datum) → AllSingle (members ds)
all_members [] = tt
all_members (d ∷ ds) = all_members ds

all_singles : (vs : List (Option Datum)) → AllSingle (singles vs)
all_singles [] = tt
all_singles (v ∷ vs) = all_singles vs

all_points : (f xs : List Datum) → AllPairs (map_points f xs)
all_points f [] = tt
all_points f (x ∷ xs) = all_points f xs

all_places : (n : ℕ) (vs : List (Option Datum)) → AllPairs (place_points n vs)
all_places n [] = tt
all_places n (v ∷ vs) = all_places (suc n) vs

either_way : (b : Begin) (t : Bool) (x y : Started) → AllOf b x → AllOf b y → AllOf b (cond t x y)
either_way b true x y h g = h
either_way b false x y h g = g

pub items_alike : (b : Begin) (vs : List (Option Datum)) → AllOf b (items_of b vs)
items_alike (Members Values) vs = valued (Members Values) (one_source values_of) (sourced (Members Values) values_of each) (all_values vs)
  where
    each : (d : Datum) → AllOf (Members Values) (values_of d)
    each (set ms) = all_members (element_list ms)
    each (tuple ps) = all_singles (part_list ps)
    each (text t) = all_singles (letters t)
    each d = tt
items_alike (Members Between) vs = valued (Members Between) integers_between each (all_values vs)
  where
    each : (ds : List Datum) → AllOf (Members Between) (integers_between ds)
    each (int a ∷ int b ∷ []) = all_members (range_from a b)
    each ds = tt
items_alike (Members SetSteps) vs = valued (Members SetSteps) (integers_stepped set_from) each (all_values vs)
  where
    each : (ds : List Datum) → AllOf (Members SetSteps) (integers_stepped set_from ds)
    each (int a ∷ int b ∷ int c ∷ []) = either_way (Members SetSteps) (unsigned_abs (b -ℤ a) == 0) (Refuses ZeroFault) (Starts (members (set_from (step_from a b c)))) tt (all_members (set_from (step_from a b c)))
    each ds = tt
items_alike (Members TupleSteps) vs = valued (Members TupleSteps) (integers_stepped (λ ds. ds)) each (all_values vs)
  where
    each : (ds : List Datum) → AllOf (Members TupleSteps) (integers_stepped (λ ds. ds) ds)
    each (int a ∷ int b ∷ int c ∷ []) = either_way (Members TupleSteps) (unsigned_abs (b -ℤ a) == 0) (Refuses ZeroFault) (Starts (members (step_from a b c))) tt (all_members (step_from a b c))
    each ds = tt
items_alike Points vs = valued Points (one_source points_of) (sourced Points points_of each) (all_values vs)
  where
    each : (d : Datum) → AllOf Points (points_of d)
    each (set ms) = either_way Points (is_map (element_list ms)) (Starts (map_points (element_list ms) (domain_of (element_list ms)))) (Refuses KindFault) (all_points (element_list ms) (domain_of (element_list ms))) tt
    each (tuple ps) = all_places 1 (part_list ps)
    each (text t) = all_places 1 (letters t)
    each d = tt

-- ---- what a return hands back

-- the parameters that are handed back aren't taken
pub handing : (n : ℕ) (ps : List Parameter) (own : Cells) (xs : List Operand) (s : Shape) → ((x : Parameter) → is_handed n ps (parameter n x) ≡ true → held_in own (parameter n x) ≡ Gone → ⊥) → HaveShape xs s → (ys : List Operand) × (handed_back n ps own xs ≡ Some ys) × HaveShape ys (results (handed ps) s)
handing n [] own xs s whole h = (xs, refl, h)
handing n (p ∷ ps) own xs s whole h =
    go p.passing refl (held_in own (parameter n p)) refl (handing n ps own xs s (λ x is. whole x (or_later (is_back p.passing && is_variable (parameter n p) (parameter n x)) (is_handed n ps (parameter n x)) is)) h)
  where
    or_later : (a b : Bool) → b ≡ true → a || b ≡ true
    or_later true b g = refl
    or_later false b g = g

    back : is_back p.passing ≡ true → held_in own (parameter n p) ≡ Gone → ⊥
    back is gone = whole p (first (is_back p.passing) (is_variable (parameter n p) (parameter n p)) (is_handed n ps (parameter n p)) is (variable_itself (parameter n p))) gone
      where
        first : (a b d : Bool) → a ≡ true → b ≡ true → (a && b) || d ≡ true
        first true true d g i = refl
        first true false d g i = cc
        first false b d g i = cc

    Handed : Passing → Held → Type 0
    Handed q held = (ys : List Operand) × (hand q held (handed_back n ps own xs) ≡ Some ys) × HaveShape ys (results (one_more q (handed ps)) s)

    pushed : (held : Held) → (held ≡ Gone → ⊥) → (r : (ys : List Operand) × (handed_back n ps own xs ≡ Some ys) × HaveShape ys (results (handed ps) s)) → (ys : List Operand) × (push_held held (handed_back n ps own xs) ≡ Some ys) × HaveShape ys (AResult ∷ results (handed ps) s)
    pushed Gone not_gone r = absurd (not_gone refl)
    pushed (There v) not_gone (ys, is, shape) = (Result v ∷ ys, ap (push_held (There v)) is, (tt, shape))

    go : (q : Passing) → p.passing ≡ q → (held : Held) → held_in own (parameter n p) ≡ held → ((ys : List Operand) × (handed_back n ps own xs ≡ Some ys) × HaveShape ys (results (handed ps) s)) → Handed p.passing (held_in own (parameter n p))
    go Rd is held that r = rw (is) r
    go Wr is held that r = rw (is) (pushed (held_in own (parameter n p)) (back (ap is_back is)) r)
    go Rw is held that r = rw (is) (pushed (held_in own (parameter n p)) (back (ap is_back is)) r)
