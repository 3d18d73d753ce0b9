-- Variables that differ.
use Rattle.std.proofs.Common.{◌≡◌, ◌∙◌, ℕ, zero, suc, Bool, true, false, cond, List, [], ◌∷◌, ◌++◌, map, length, get_or, take, drop, nat_eq, ◌+◌, ◌<◌, ◌≤◌, arith, refl, sym, ap, subst, bytes_eq, eq-eqb}
use Rattle.std.proofs.Math.Dec.{eqb-suc-zero, eqb-zero-suc, eqb-suc-suc}
use Rattle.std.proofs.lemmas.List.{append_assoc, append-nil, take_all, drop_all}
use Rattle.std.specs.Prelude.{◌&&◌, ◌||◌, not, ◌↔◌, IsTrue, Result, Ok, Err, IfOk}
use Rattle.std.specs.List.{list_any, AllByRecursion}
use Rattle.indexmap.specs.IndexSet.{insert_key}
use Rattle.setl_names.specs.Names.{Name, has, with_name, repeats_after, has_repeat}
use Rattle.setl_model_runs.specs.Variable.{Variable, Global, Own, Bound, is_variable}
use Rattle.setl_model_runs.specs.VariableLaws.{same_variable, variable_itself}
use Rattle.setl_code.specs.Names.{is_among}
use Rattle.setl_code.specs.declared.code.OwnName.{OwnName}
use Rattle.setl_code.specs.declared.code.OwnName.TheVariants as own
use Rattle.setl_code.specs.Plain.{plain_name}
use Rattle.setl_code.specs.MayRun.{Differ}
use Rattle.setl_image_names.specs.Once.{Key, own_variable, key_variable, variables_seen, are_new}

-- ---- keys

own_law : (body m n : ℕ) (x y : List ℕ) → (nat_eq m n && bytes_eq x y) ≡ is_variable (own_variable body m x) (own_variable body n y)
own_law body zero zero x y = ap (λ b. b && bytes_eq x y) (eq-eqb 0 0 refl ∙ sym (eq-eqb body body refl))
own_law body zero (suc n) x y = ap (λ b. b && bytes_eq x y) (eqb-zero-suc n)
own_law body (suc m) zero x y = ap (λ b. b && bytes_eq x y) (eqb-suc-zero m)
own_law body (suc m) (suc n) x y = ap (λ b. b && bytes_eq x y) (eqb-suc-suc m n)

abbrev pub same_key : Key → Key → Bool
same_key a b = nat_eq a.0 b.0 && bytes_eq a.1.now b.1.now

seen_key : (n : ℕ) (key : Key) (keys : List Key) → list_any (same_key key) keys ≡ is_among (variables_seen n keys) (key_variable n key)
seen_key n key [] = refl
seen_key n key (k ∷ keys) =
    ap (λ b. b || list_any (same_key key) keys) (own_law n key.0 k.0 key.1.now k.1.now) ∙ ap (λ b. is_variable (key_variable n key) (key_variable n k) || b) (seen_key n key keys)

pub key_new : (n : ℕ) (key : Key) (keys : List Key) (so : Bool) → so ≡ not (list_any (same_key key) keys) → so ≡ not (is_among (variables_seen n keys) (key_variable n key))
key_new n key keys so h = h ∙ ap not (seen_key n key keys)

map_end : (n : ℕ) (key : Key) (keys : List Key) → variables_seen n (keys ++ key ∷ []) ≡ variables_seen n keys ++ key_variable n key ∷ []
map_end n key [] = refl
map_end n key (k ∷ keys) = ap (λ (xs : List Variable). key_variable n k ∷ xs) (map_end n key keys)

not_true : (b : Bool) → not b ≡ true → b ≡ false
not_true true h = cc
not_true false h = refl

pub key_put : (n : ℕ) (key : Key) (keys more : List Key) (so : Bool) → so ≡ not (list_any (same_key key) keys) → more ≡ insert_key same_key keys key → so ≡ true → variables_seen n more ≡ variables_seen n keys ++ key_variable n key ∷ []
key_put n key keys more so new put is =
    ap (variables_seen n) (put ∙ ap (λ (b : Bool). cond b keys (keys ++ key ∷ [])) (not_true (list_any (same_key key) keys) (sym new ∙ is))) ∙ map_end n key keys

-- ---- variables that are new

or_parts : (a b : Bool) → a || b ≡ false → (a ≡ false) × (b ≡ false)
or_parts false b h = (refl, h)
or_parts true b h = cc

or_none : (a b : Bool) → a ≡ false → b ≡ false → a || b ≡ false
or_none false b h g = g
or_none true b h g = cc

turned : (x y : Variable) → is_variable x y ≡ false → is_variable y x ≡ false
turned x y h = go (is_variable y x) refl
  where
    go : (b : Bool) → is_variable y x ≡ b → b ≡ false
    go false is = refl
    go true is =
        let same : y ≡ x = same_variable y x is in
        let one : is_variable x y ≡ true = subst (λ (z : Variable). is_variable x z ≡ true) (sym same) (variable_itself x) in
        sym one ∙ h

among_end : (xs : List Variable) (y x : Variable) → is_among (xs ++ y ∷ []) x ≡ is_among xs x || (is_variable x y || false)
among_end [] y x = refl
among_end (z ∷ xs) y x = ap (λ b. is_variable x z || b) (among_end xs y x) ∙ sym (grouped (is_variable x z) (is_among xs x) (is_variable x y || false))
  where
    grouped : (a b c : Bool) → (a || b) || c ≡ a || (b || c)
    grouped true b c = refl
    grouped false b c = refl

-- none of the variables is among those before
abbrev Apart : List Variable → List Variable → Type 0
Apart seen xs = AllByRecursion (λ x. is_among seen x ≡ false) xs

apart_less : (seen xs : List Variable) (y : Variable) → Apart (seen ++ y ∷ []) xs → Apart seen xs × (is_among xs y ≡ false)
apart_less seen [] y h = (tt, refl)
apart_less seen (x ∷ xs) y h =
    let here = or_parts (is_among seen x) (is_variable x y || false) (sym (among_end seen y x) ∙ h.0) in
    let one = (or_parts (is_variable x y) false here.1).0 in
    let rest = apart_less seen xs y h.1 in
    ((here.0, rest.0), or_none (is_variable y x) (is_among xs y) (turned x y one) rest.1)

apart_more : (seen xs : List Variable) (y : Variable) → Apart seen xs → is_among xs y ≡ false → Apart (seen ++ y ∷ []) xs
apart_more seen [] y h g = tt
apart_more seen (x ∷ xs) y h g =
    let two = or_parts (is_variable y x) (is_among xs y) g in
    (among_end seen y x ∙ or_none (is_among seen x) (is_variable x y || false) h.0 (or_none (is_variable x y) false (turned y x two.0) refl), apart_more seen xs y h.1 two.1)

both : (a b : Bool) → a && b ≡ true → (a ≡ true) × (b ≡ true)
both true b h = (refl, h)
both false b h = cc

join : (a b : Bool) → a ≡ true → b ≡ true → a && b ≡ true
join true b h g = g
join false b h g = cc

new_differ : (seen xs : List Variable) → are_new seen xs ≡ true → Differ xs × Apart seen xs
new_differ seen [] h = (tt, tt)
new_differ seen (x ∷ xs) h =
    let two = both (not (is_among seen x)) (are_new (seen ++ x ∷ []) xs) h in
    let more = new_differ (seen ++ x ∷ []) xs two.1 in
    let less = apart_less seen xs x more.1 in
    ((less.1, more.0), (not_true (is_among seen x) two.0, less.0))

differ_new : (seen xs : List Variable) → Differ xs → Apart seen xs → are_new seen xs ≡ true
differ_new seen [] d h = refl
differ_new seen (x ∷ xs) d h = join (not (is_among seen x)) (are_new (seen ++ x ∷ []) xs) (ap not h.0) (differ_new (seen ++ x ∷ []) xs d.1 (apart_more seen xs x h.1 d.0))

none_seen : (xs : List Variable) → Apart [] xs
none_seen [] = tt
none_seen (x ∷ xs) = (refl, none_seen xs)

pub differ_tells : (xs : List Variable) → IsTrue (are_new [] xs) ↔ Differ xs
differ_tells xs = (λ h. (new_differ [] xs h).0, λ d. differ_new [] xs d (none_seen xs))

-- two lists, one behind the other
pub new_behind : (seen xs ys : List Variable) → are_new seen (xs ++ ys) ≡ (are_new seen xs && are_new (seen ++ xs) ys)
new_behind seen [] ys = ap (λ (zs : List Variable). are_new zs ys) (sym (append-nil seen))
new_behind seen (x ∷ xs) ys =
    ap (λ b. not (is_among seen x) && b) (new_behind (seen ++ x ∷ []) xs ys ∙ ap (λ (zs : List Variable). are_new (seen ++ x ∷ []) xs && are_new zs ys) (append_assoc seen (x ∷ []) xs))
    ∙ grouped (not (is_among seen x)) (are_new (seen ++ x ∷ []) xs) (are_new (seen ++ x ∷ xs) ys)
  where
    grouped : (a b c : Bool) → a && (b && c) ≡ (a && b) && c
    grouped true b c = refl
    grouped false b c = refl

-- the variables of a body
pub first_repeat : (xs ys : List Variable) (so : Bool) → so ≡ are_new [] xs → so ≡ false → IsTrue false ↔ Differ (xs ++ ys)
first_repeat xs ys so is nope =
    let none : are_new [] (xs ++ ys) ≡ false = new_behind [] xs ys ∙ ap (λ b. b && are_new xs ys) (sym is ∙ nope) in
    subst (λ (b : Bool). IsTrue b ↔ Differ (xs ++ ys)) none (differ_tells (xs ++ ys))

pub rest_tells : (xs ys seen : List Variable) (first so : Bool) → first ≡ are_new [] xs → first ≡ true → seen ≡ xs → so ≡ are_new seen ys → IsTrue so ↔ Differ (xs ++ ys)
rest_tells xs ys seen first so is good put tells =
    let same : are_new [] (xs ++ ys) ≡ so = new_behind [] xs ys ∙ ap (λ b. b && are_new xs ys) (sym is ∙ good) ∙ ap (λ (zs : List Variable). are_new zs ys) (sym put) ∙ sym tells in
    subst (λ (b : Bool). IsTrue b ↔ Differ (xs ++ ys)) same (differ_tells (xs ++ ys))

-- ---- names

among_globals : (xs : List Name) (x : Name) → is_among (map Global xs) (Global x) ≡ has xs x
among_globals [] x = refl
among_globals (y ∷ xs) x = ap (λ b. bytes_eq x y || b) (among_globals xs x)

globals_end : (xs : List Name) (x : Name) → map Global (xs ++ x ∷ []) ≡ map Global xs ++ Global x ∷ []
globals_end [] x = refl
globals_end (y ∷ xs) x = ap (λ (zs : List Variable). Global y ∷ zs) (globals_end xs x)

repeat_by : (seen xs : List Name) (x : Name) (b : Bool) → are_new (map Global (seen ++ x ∷ [])) (map Global xs) ≡ not (repeats_after (seen ++ x ∷ []) xs) → not b && are_new (map Global seen ++ Global x ∷ []) (map Global xs) ≡ not (b || repeats_after (cond b seen (seen ++ x ∷ [])) xs)
repeat_by seen xs x true more = refl
repeat_by seen xs x false more = ap (λ (zs : List Variable). are_new zs (map Global xs)) (sym (globals_end seen x)) ∙ more

same_repeat : (seen xs : List Name) → are_new (map Global seen) (map Global xs) ≡ not (repeats_after seen xs)
same_repeat seen [] = refl
same_repeat seen (x ∷ xs) = ap (λ b. not b && are_new (map Global seen ++ Global x ∷ []) (map Global xs)) (among_globals seen x) ∙ repeat_by seen xs x (has seen x) (same_repeat (seen ++ x ∷ []) xs)

pub names_differ : (xs : List Name) → has_repeat xs ≡ false → Differ (map Global xs)
names_differ xs h = (differ_tells (map Global xs)).0 (same_repeat [] xs ∙ ap not h)

pub names_repeat : (xs : List Name) → has_repeat xs ≡ true → Differ (map Global xs) → ⊥
names_repeat xs h d = no (sym ((differ_tells (map Global xs)).1 d) ∙ same_repeat [] xs ∙ ap not h)
  where
    no : true ≡ false → ⊥
    no e = cc

-- ---- where the code stops

not_false : (b c : Bool) → c ≡ not b → c ≡ false → b ≡ true
not_false true c h g = refl
not_false false c h g = no (sym g ∙ h)
  where
    no : false ≡ true → false ≡ true
    no e = e

repeat_here : (names all : List Name) (k : ℕ) (x : Name) → k < length names → x ≡ get_or names k x → has all x ≡ true → repeats_after all (drop k names) ≡ true
repeat_here [] all k x less is here = absurd (omega (arith, less))
repeat_here (y ∷ names) all zero x less is here = ap (λ b. b || repeats_after (with_name all y) names) (ap (has all) (sym is) ∙ here)
repeat_here (y ∷ names) all (suc k) x less is here = repeat_here names all k x (omega (arith, less)) is here

pub stops_at : (names all : List Name) (k : ℕ) (x y : Name) (new : Bool) → k < length names → x ≡ get_or names k x → y ≡ x → repeats_after all (drop k names) ≡ has_repeat names → new ≡ not (has all y) → new ≡ false → Differ (map Global names) → ⊥
stops_at names all k x y new less is same rest tells nope =
    names_repeat names (sym rest ∙ repeat_here names all k x less is (subst (λ (z : Name). has all z ≡ true) same (not_false (has all y) new tells nope)))

pub goes_through : (names all : List Name) (k : ℕ) → length names ≤ k → repeats_after all (drop k names) ≡ has_repeat names → all ≡ take k names → (all ≡ names) × Differ (map Global names)
goes_through names all k past rest is = (
  is ∙ take_all k names past,
  names_differ names (sym rest ∙ ap (repeats_after all) (drop_all k names past)),
)

-- ---- formers

pub former_is : (n f g : ℕ) (t u : List ℕ) (name : OwnName) → g ≡ f → u ≡ t → name ≡ own.Former f t → own_variable n (g + 1) u ≡ plain_name n name
former_is n f g t u name same text is =
    let next : g + 1 ≡ suc g = omega arith in
    ap (λ (k : ℕ). own_variable n k u) next ∙ (λ i. Bound (same i) (text i)) ∙ ap (plain_name n) (sym is)

-- ---- the variables of a body

pub stops_first : (xs ys : List Variable) (keys : List Key) (n : ℕ) (so : Bool) → keys ≡ [] → so ≡ are_new (variables_seen n keys) xs → so ≡ false → IsTrue false ↔ Differ (xs ++ ys)
stops_first xs ys keys n so none is nope = first_repeat xs ys so (is ∙ ap (λ (ks : List Key). are_new (variables_seen n ks) xs) none) nope

pub goes_on : {E : Type 0} (r : Result Bool E) (xs ys : List Variable) (keys more : List Key) (n : ℕ) (first : Bool) → keys ≡ [] → first ≡ are_new (variables_seen n keys) xs → first ≡ true → (first ≡ true → variables_seen n more ≡ variables_seen n keys ++ xs) → IfOk r (λ so. so ≡ are_new (variables_seen n more) ys) → IfOk r (λ so. IsTrue so ↔ Differ (xs ++ ys))
goes_on (Err e) xs ys keys more n first none is good put tells = tt
goes_on (Ok so) xs ys keys more n first none is good put tells =
    rest_tells xs ys (variables_seen n more) first so (is ∙ ap (λ (ks : List Key). are_new (variables_seen n ks) xs) none) good
    (put good ∙ ap (λ (ks : List Key). variables_seen n ks ++ xs) none) tells
