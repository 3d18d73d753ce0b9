-- Tables of slots: look-ups, one more key, and one more name.
use Rattle.std.proofs.Math.Dec.{eqb-suc-zero, eqb-zero-suc, eqb-suc-suc}
use Rattle.std.proofs.Math.Bool.{or_assoc, or_comm}
use Rattle.std.proofs.Math.Numerals.{add-one}
use Rattle.std.proofs.lemmas.Bool.{eq-eqb}
use Rattle.std.proofs.lemmas.List.{append-nil, append_assoc, map-append, length-map}
use Rattle.std.proofs.lemmas.Slice.Eq.{bytes_eq-Decides}
use Rattle.std.proofs.Common.{◌≡◌, ℕ, zero, suc, ◌+◌, ◌&&◌, nat_eq, bytes_eq, Bool, true, false, cond, List, [], ◌∷◌, ◌++◌, ◌||◌, map, take, length, refl, ap, sym, subst, ◌∙◌, Option, Some, None, arith}
use Rattle.std.specs.Prelude.{slice_get, is_some, IfSome, Result, Ok, Err, OnOk, OnErr}
use Rattle.std.specs.Borrow.{Bor}
use Rattle.std.specs.Map.{lookup}
use Rattle.indexmap.specs.IndexMap.{insert_entry}
use Rattle.setl_tree.specs.declared.tree.Param.{Param}
use Rattle.setl_model_runs.specs.Variable.{Variable, Own, Bound, is_variable}
use Rattle.setl_model_runs.specs.VariableLaws.{same_variable}
use Rattle.setl_program.specs.ProgramOf.{parameter_of}
use Rattle.setl_code.specs.Names.{is_among, is_own, is_parameter}
use Rattle.setl_code.specs.declared.code.OwnName.{OwnName}
use Rattle.setl_code.specs.Plain.{variable_at, plain_name}
use Rattle.setl_gen_emitter.specs.Table.{Table, with_own}
use Rattle.setl_gen_emitter.specs.TableLaws.{is_among_more}
use Rattle.setl_gen_emitter.specs.Slots.{own_variable, own_key, own_of, AreSlots, is_key, IsSlot, AreAll, IsAdded, AreOwn}

or_again : (a b : Bool) → a || b ≡ (a || b) || a
or_again true b = refl
or_again false true = refl
or_again false false = refl

module _ {K : Type 0} (eq : K → K → Bool) (kv : K → Variable) (law : (a b : K) → eq a b ≡ is_variable (kv a) (kv b)) where
  same_key : (a b : K) → eq a b ≡ true → kv a ≡ kv b
  same_key a b h = same_variable (kv a) (kv b) (sym (law a b) ∙ h)

  -- ---- look-ups

  slot_by : (key : K) (e : K × ℕ) (es : List (K × ℕ)) (slot : ℕ) (b : Bool) → eq key e.0 ≡ b → ((h : lookup (eq key) es ≡ Some slot) → IsSlot kv es (kv key) slot) → cond b (Some e.1) (lookup (eq key) es) ≡ Some slot → IsSlot kv (e ∷ es) (kv key) slot
  slot_by key e es slot true t ih h xs s =
      let is : e.1 ≡ slot = cc in
      subst (λ n. slice_get xs n ≡ Some (kv key)) is (s.0 ∙ ap Some (sym (same_key key e.0 t)))
  slot_by key e es slot false t ih h xs s = ih h xs s.1

  pub slot_found : (key : K) (es : List (K × ℕ)) (slot : ℕ) → lookup (eq key) es ≡ Some slot → IsSlot kv es (kv key) slot
  slot_found key [] slot h = cc
  slot_found key (e ∷ es) slot h = slot_by key e es slot (eq key e.0) refl (slot_found key es slot) h

  some_by : (b : Bool) (x : ℕ) (o : Option ℕ) (c : Bool) → is_some o ≡ c → is_some (cond b (Some x) o) ≡ b || c
  some_by true x o c h = refl
  some_by false x o c h = h

  pub key_found : (key : K) (es : List (K × ℕ)) → is_some (lookup (eq key) es) ≡ is_key kv es (kv key)
  key_found key [] = refl
  key_found key (e ∷ es) = some_by (eq key e.0) e.1 (lookup (eq key) es) (is_key kv es (kv key)) (key_found key es) ∙ ap (λ b. b || is_key kv es (kv key)) (law key e.0)

  -- ---- one more

  slots_by : (key : K) (slot : ℕ) (e : K × ℕ) (es : List (K × ℕ)) (xs : List Variable) (b : Bool) → eq key e.0 ≡ b → slice_get xs slot ≡ Some (kv key) → AreSlots kv xs (e ∷ es) → AreSlots kv xs (insert_entry eq es key slot) → AreSlots kv xs (cond b ((e.0, slot) ∷ es) (e ∷ insert_entry eq es key slot))
  slots_by key slot e es xs true t h s ih = (h ∙ ap Some (same_key key e.0 t), s.1)
  slots_by key slot e es xs false t h s ih = (s.0, ih)

  slots_more : (key : K) (slot : ℕ) (es : List (K × ℕ)) (xs : List Variable) → slice_get xs slot ≡ Some (kv key) → AreSlots kv xs es → AreSlots kv xs (insert_entry eq es key slot)
  slots_more key slot [] xs h s = (h, tt)
  slots_more key slot (e ∷ es) xs h s = slots_by key slot e es xs (eq key e.0) refl h s (slots_more key slot es xs h s.1)

  keys_by : (key : K) (slot : ℕ) (e : K × ℕ) (es : List (K × ℕ)) (x : Variable) (b : Bool) → eq key e.0 ≡ b → is_key kv (insert_entry eq es key slot) x ≡ (is_key kv es x || is_variable x (kv key)) → is_key kv (cond b ((e.0, slot) ∷ es) (e ∷ insert_entry eq es key slot)) x ≡ (is_key kv (e ∷ es) x || is_variable x (kv key))
  keys_by key slot e es x true t ih =
      or_again (is_variable x (kv e.0)) (is_key kv es x) ∙ ap (λ z. (is_variable x (kv e.0) || is_key kv es x) || is_variable x z) (sym (same_key key e.0 t))
  keys_by key slot e es x false t ih =
      ap (λ b. is_variable x (kv e.0) || b) ih ∙ sym (or_assoc (is_variable x (kv e.0)) (is_key kv es x) (is_variable x (kv key)))

  keys_more : (key : K) (slot : ℕ) (es : List (K × ℕ)) (x : Variable) → is_key kv (insert_entry eq es key slot) x ≡ (is_key kv es x || is_variable x (kv key))
  keys_more key slot [] x = or_comm (is_variable x (kv key)) false
  keys_more key slot (e ∷ es) x = keys_by key slot e es x (eq key e.0) refl (keys_more key slot es x)

  pub added : (key : K) (slot : ℕ) (es more : List (K × ℕ)) → more ≡ insert_entry eq es key slot → IsAdded kv es (kv key) slot more
  added key slot es more h =
      subst (IsAdded kv es (kv key) slot) (sym h) (record { slots = λ xs. slots_more key slot es xs; keys = keys_more key slot es })

-- ---- keys

pub own_law : (body m n : ℕ) (x y : List ℕ) → (nat_eq m n && bytes_eq x y) ≡ is_variable (own_variable body m x) (own_variable body n y)
own_law body zero zero x y = ap (λ b. b && bytes_eq x y) (eq-eqb 0 0 refl ∙ sym (eq-eqb body body refl))
own_law body zero (suc n) x y = ap (λ b. b && bytes_eq x y) (eqb-zero-suc n)
own_law body (suc m) zero x y = ap (λ b. b && bytes_eq x y) (eqb-suc-zero m)
own_law body (suc m) (suc n) x y = ap (λ b. b && bytes_eq x y) (eqb-suc-suc m n)

module _ {K : Type 0} (eq : K → K → Bool) (kv : K → Variable) (law : (a b : K) → eq a b ≡ is_variable (kv a) (kv b)) where
  pub slot_if_some : (key : K) (es : List (K × ℕ)) (r : Option ℕ) → r ≡ lookup (eq key) es → IfSome r (IsSlot kv es (kv key))
  slot_if_some key es None h = tt
  slot_if_some key es (Some slot) h = slot_found eq kv law key es slot (sym h)

abbrev Key : Type 0
Key = ℕ × Bor (List ℕ)

abbrev pub is_same_key : Key → Key → Bool
is_same_key a b = nat_eq a.0 b.0 && bytes_eq a.1.now b.1.now

pub own_if_some : (key : Key) (es : List (Key × ℕ)) (r : Option ℕ) → r ≡ lookup (is_same_key key) es → IfSome r (λ slot. (body : ℕ) → IsSlot (own_key body) es (own_key body key) slot)
own_if_some key es None h = tt
own_if_some key es (Some slot) h = λ body. slot_found is_same_key (own_key body) (λ a b. own_law body a.0 b.0 a.1.now b.1.now) key es slot (sym h)

pub own_found : (key : Key) (es : List (Key × ℕ)) (r : Option ℕ) → r ≡ lookup (is_same_key key) es → (body : ℕ) → is_some r ≡ is_key (own_key body) es (own_key body key)
own_found key es r h body = ap (λ (o : Option ℕ). is_some o) h ∙ key_found is_same_key (own_key body) (λ a b. own_law body a.0 b.0 a.1.now b.1.now) key es

-- the variable at a slot
pub at_slot : (xs : List Variable) (k : ℕ) (x : Variable) → slice_get xs k ≡ Some x → variable_at xs k ≡ x
at_slot [] k x h = cc
at_slot (y ∷ xs) zero x h = cc
at_slot (y ∷ xs) (suc k) x h = at_slot xs k x h

-- ---- whether a variable is there

is_among_join : (xs ys : List Variable) (x : Variable) → is_among (xs ++ ys) x ≡ (is_among xs x || is_among ys x)
is_among_join [] ys x = refl
is_among_join (z ∷ xs) ys x = ap (λ b. is_variable x z || b) (is_among_join xs ys x) ∙ sym (or_assoc (is_variable x z) (is_among xs x) (is_among ys x))

both_ways : (a b : Bool) → (a ≡ true → b ≡ true) → (b ≡ true → a ≡ true) → a ≡ b
both_ways true true f g = refl
both_ways false false f g = refl
both_ways true false f g = sym (f refl)
both_ways false true f g = g refl

bytes_eq_comm : (x y : List ℕ) → bytes_eq x y ≡ bytes_eq y x
bytes_eq_comm x y =
    both_ways (bytes_eq x y) (bytes_eq y x) (λ h. (bytes_eq-Decides y x).1 (sym ((bytes_eq-Decides x y).0 h))) (λ h. (bytes_eq-Decides x y).1 (sym ((bytes_eq-Decides y x).0 h)))

abbrev named : (n : ℕ) → List Param → List Variable
named n ps = map (λ p. Own n p.name) ps

parameter_among : (n : ℕ) (ps : List Param) (name : List ℕ) → is_among (named n ps) (Own n name) ≡ is_parameter (map parameter_of ps) name
parameter_among n [] name = refl
parameter_among n (p ∷ ps) name =
    ap (λ b. (b && bytes_eq name p.name) || is_among (named n ps) (Own n name)) (eq-eqb n n refl)
    ∙ ap (λ b. b || is_among (named n ps) (Own n name)) (bytes_eq_comm name p.name)
    ∙ ap (λ b. bytes_eq p.name name || b) (parameter_among n ps name)

bound_among : (n former : ℕ) (ps : List Param) (name : List ℕ) → is_among (named n ps) (Bound former name) ≡ false
bound_among n former [] name = refl
bound_among n former (p ∷ ps) name = bound_among n former ps name

own_test : (n former : ℕ) (ps : List Param) (name : List ℕ) → is_own (map parameter_of ps) (own_variable n former name) ≡ cond (is_among (named n ps) (own_variable n former name)) false true
own_test n zero ps name = ap (λ (b : Bool). cond b false true) (sym (parameter_among n ps name))
own_test n (suc former) ps name = ap (λ (b : Bool). cond b false true) (sym (bound_among n former ps name))

tests_joined : (a b : Bool) (names more : List Variable) → cond (cond a false true) (cond b names more) names ≡ cond (a || b) names more
tests_joined true b names more = refl
tests_joined false b names more = refl

own_with : (n former : ℕ) (ps : List Param) (names : List Variable) (name : List ℕ) → with_own ps names (own_variable n former name) ≡ cond (is_among (own_of n ps names) (own_variable n former name)) names (names ++ own_variable n former name ∷ [])
own_with n former ps names name =
    let x = own_variable n former name in
    ap (λ (b : Bool). cond b (cond (is_among names x) names (names ++ x ∷ [])) names) (own_test n former ps name)
    ∙ tests_joined (is_among (named n ps) x) (is_among names x) names (names ++ x ∷ [])
    ∙ ap (λ (b : Bool). cond b names (names ++ x ∷ [])) (sym (is_among_join (named n ps) names x))

pub with_key : (n former : ℕ) (ps : List Param) (names : List Variable) (name : List ℕ) (es : List (Key × ℕ)) (b : Bool) → AreAll (own_key n) (own_of n ps names) es → is_key (own_key n) es (own_variable n former name) ≡ b → with_own ps names (own_variable n former name) ≡ cond b names (names ++ own_variable n former name ∷ [])
with_key n former ps names name es b all h =
    let x = own_variable n former name in
    own_with n former ps names name ∙ ap (λ (b : Bool). cond b names (names ++ x ∷ [])) (all x ∙ h)

-- ---- slots behind others

get_more : (xs ys : List Variable) (k : ℕ) (x : Variable) → slice_get xs k ≡ Some x → slice_get (xs ++ ys) k ≡ Some x
get_more [] ys k x h = cc
get_more (y ∷ xs) ys zero x h = h
get_more (y ∷ xs) ys (suc k) x h = get_more xs ys k x h

get_last : (xs : List Variable) (x : Variable) → slice_get (xs ++ x ∷ []) (length xs) ≡ Some x
get_last [] x = refl
get_last (y ∷ xs) x = get_last xs x

slots_before : {K : Type 0} (kv : K → Variable) (xs ys : List Variable) (es : List (K × ℕ)) → AreSlots kv xs es → AreSlots kv (xs ++ ys) es
slots_before kv xs ys [] h = tt
slots_before kv xs ys (e ∷ es) h = (get_more xs ys e.1 (kv e.0) h.0, slots_before kv xs ys es h.1)

all_more : (n : ℕ) (own : List Variable) (x : Variable) (slot : ℕ) (es more : List (Key × ℕ)) → AreAll (own_key n) own es → IsAdded (own_key n) es x slot more → AreAll (own_key n) (own ++ x ∷ []) more
all_more n own x slot es more h add =
    λ y. is_among_more own x y ∙ ap (λ b. b || is_variable y x) (h y) ∙ sym (add.keys y)

own_more : (n : ℕ) (own : List Variable) (x : Variable) (slot : ℕ) (es more : List (Key × ℕ)) → slot ≡ length own → AreOwn n own es → IsAdded (own_key n) es x slot more → AreOwn n (own ++ x ∷ []) more
own_more n own x slot es more at h add =
    let is : slice_get (own ++ x ∷ []) slot ≡ Some x = ap (slice_get (own ++ x ∷ [])) at ∙ get_last own x in
    record { slots = add.slots (own ++ x ∷ []) is (slots_before (own_key n) own (x ∷ []) es h.slots); all = all_more n own x slot es more h.all add }

own_length : (n : ℕ) (ps : List Param) (names : List Variable) → length (own_of n ps names) ≡ length ps + length names
own_length n [] names = omega arith
own_length n (p ∷ ps) names = let h = own_length n ps names in omega arith

pub own_added : (n : ℕ) (ps : List Param) (names : List Variable) (x : Variable) (slot : ℕ) (es more : List (Key × ℕ)) → slot ≡ length ps + length names → AreOwn n (own_of n ps names) es → IsAdded (own_key n) es x slot more → AreOwn n (own_of n ps (names ++ x ∷ [])) more
own_added n ps names x slot es more at h add =
    subst (λ own. AreOwn n own more) (append_assoc (named n ps) names (x ∷ [])) (own_more n (own_of n ps names) x slot es more (at ∙ sym (own_length n ps names)) h add)

-- ---- the slots of parameters

pub get_mapped : {A : Type 0} (f : A → Variable) (xs : List A) (k : ℕ) (x : A) → slice_get xs k ≡ Some x → slice_get (map f xs) k ≡ Some (f x)
get_mapped f [] k x h = cc
get_mapped f (y ∷ xs) zero x h = cc
get_mapped f (y ∷ xs) (suc k) x h = get_mapped f xs k x h

take_next : {A : Type 0} (f : A → Variable) (xs : List A) (k : ℕ) (x : A) → slice_get xs k ≡ Some x → map f (take (suc k) xs) ≡ map f (take k xs) ++ f x ∷ []
take_next f [] k x h = cc
take_next f (y ∷ xs) zero x h = cc
take_next f (y ∷ xs) (suc k) x h = ap (λ r. f y ∷ r) (take_next f xs k x h)

pub parameter_added : (n : ℕ) (ps : List Param) (k : ℕ) (p : Param) (es more : List (Key × ℕ)) → slice_get ps k ≡ Some p → AreSlots (own_key n) (named n ps) es × AreAll (own_key n) (named n (take k ps)) es → IsAdded (own_key n) es (Own n p.name) k more → AreSlots (own_key n) (named n ps) more × AreAll (own_key n) (named n (take (suc k) ps)) more
parameter_added n ps k p es more h before add = (
  add.slots (named n ps) (get_mapped (λ (p : Param). Own n p.name) ps k p h) before.0,
  subst (λ xs. AreAll (own_key n) xs more) (sym (take_next (λ (p : Param). Own n p.name) ps k p h)) (all_more n (named n (take k ps)) (Own n p.name) k es more before.1 add),
)

pub parameter_next : (n : ℕ) (ps : List Param) (k slot : ℕ) (p : Param) (key : List ℕ) (es more : List (Key × ℕ)) → slice_get ps k ≡ Some p → slot ≡ k → key ≡ p.name → AreSlots (own_key n) (named n ps) es × AreAll (own_key n) (named n (take k ps)) es → IsAdded (own_key n) es (Own n key) slot more → AreSlots (own_key n) (named n ps) more × AreAll (own_key n) (named n (take (k + 1) ps)) more
parameter_next n ps k slot p key es more h at same before add =
    subst (λ m. AreSlots (own_key n) (named n ps) more × AreAll (own_key n) (named n (take m ps)) more) (sym (add-one k))
    (parameter_added n ps k p es more h before (subst (λ m. IsAdded (own_key n) es (Own n p.name) m more) at (subst (λ key. IsAdded (own_key n) es (Own n key) slot more) same add)))

-- ---- a table with a variable noted

abbrev with_names : Table → List Variable → Table
with_names t xs = record { body = t.body; vars = t.vars; parameters = t.parameters; names = xs }

module _ (t u : Table) (former : ℕ) (key name : List ℕ) (es : List (Key × ℕ)) (is : u ≡ t) (same : key ≡ name) (all : AreAll (own_key u.body) (own_of u.body u.parameters u.names) es) where
  noted_by : (b : Bool) → is_key (own_key u.body) es (own_variable u.body former key) ≡ b → with_own u.parameters u.names (own_variable u.body former name) ≡ cond b u.names (u.names ++ own_variable u.body former name ∷ [])
  noted_by b h =
      subst (λ name. with_own u.parameters u.names (own_variable u.body former name) ≡ cond b u.names (u.names ++ own_variable u.body former name ∷ [])) same (with_key u.body former u.parameters u.names key es b all h)

  noted_in : (news : List Variable) → with_own u.parameters u.names (own_variable u.body former name) ≡ news → with_names u news ≡ with_names t (with_own t.parameters t.names (own_variable t.body former name))
  noted_in news h =
      ap (with_names u) (sym h) ∙ ap (λ (t : Table). with_names t (with_own t.parameters t.names (own_variable t.body former name))) is

  pub noted_there : is_key (own_key u.body) es (own_variable u.body former key) ≡ true → t ≡ with_names t (with_own t.parameters t.names (own_variable t.body former name))
  noted_there h = sym is ∙ noted_in u.names (noted_by true h)

  pub noted_new : (olds news : List OwnName) (own : OwnName) → is_key (own_key u.body) es (own_variable u.body former key) ≡ false → u.names ≡ map (plain_name u.body) olds → plain_name u.body own ≡ own_variable u.body former name → news ≡ olds ++ own ∷ [] → with_names u (map (plain_name u.body) news) ≡ with_names t (with_own t.parameters t.names (own_variable t.body former name))
  noted_new olds news own h names its more =
      noted_in (map (plain_name u.body) news)
      (noted_by false h ∙ ap (λ (xs : List Variable). xs ++ own_variable u.body former name ∷ []) names ∙ ap (λ (x : Variable). map (plain_name u.body) olds ++ x ∷ []) (sym its)
      ∙ sym (map-append (plain_name u.body) olds (own ∷ [])) ∙ ap (map (plain_name u.body)) (sym more))

pub on_ok : {A B : Type 0} (r : Result A B) (P Q : Type 0) → OnOk r P → (P → Q) → OnOk r Q
on_ok (Ok x) P Q h f = f h
on_ok (Err e) P Q h f = tt

by_two : {A B : Type 0} (r : Result A B) (P P2 Q Q2 X : Type 0) → OnOk r P → OnOk r P2 → OnErr r Q → OnErr r Q2 → (P → P2 → X) → (Q → Q2 → X) → X
by_two (Ok x) P P2 Q Q2 X p p2 q q2 f g = f p p2
by_two (Err e) P P2 Q Q2 X p p2 q q2 f g = g q q2

abbrev pub Added : (n former slot : ℕ) (key : List ℕ) (es more : List (Key × ℕ)) → Type 0
Added n former slot key es more = (body : ℕ) → IsAdded (own_key body) es (own_variable body former key) slot more

own_names_added : (n former slot : ℕ) (ps : List Param) (olds news : List OwnName) (own : OwnName) (key name : List ℕ) (es more : List (Key × ℕ)) → key ≡ name → slot ≡ length ps + length olds → plain_name n own ≡ own_variable n former name → AreOwn n (own_of n ps (map (plain_name n) olds)) es → news ≡ olds ++ own ∷ [] → Added n former slot key es more → AreOwn n (own_of n ps (map (plain_name n) news)) more
own_names_added n former slot ps olds news own key name es more same at its h names add =
    let x = own_variable n former name in
    let here : slot ≡ length ps + length (map (plain_name n) olds) = at ∙ ap (λ m. length ps + m) (sym (length-map olds (plain_name n))) in
    let one : IsAdded (own_key n) es x slot more = subst (λ key. IsAdded (own_key n) es (own_variable n former key) slot more) same (add n) in
    let are : map (plain_name n) olds ++ x ∷ [] ≡ map (plain_name n) news =
    ap (λ (x : Variable). map (plain_name n) olds ++ x ∷ []) (sym its) ∙ sym (map-append (plain_name n) olds (own ∷ [])) ∙ ap (map (plain_name n)) (sym names) in
    subst (λ (xs : List Variable). AreOwn n (own_of n ps xs) more) are (own_added n ps (map (plain_name n) olds) x slot es more here h one)

pub own_kept : {A B : Type 0} (r : Result A B) (n former slot : ℕ) (ps : List Param) (olds news : List OwnName) (own : OwnName) (key name : List ℕ) (es more : List (Key × ℕ)) → key ≡ name → slot ≡ length ps + length olds → plain_name n own ≡ own_variable n former name → AreOwn n (own_of n ps (map (plain_name n) olds)) es → OnOk r (news ≡ olds ++ own ∷ []) → OnOk r (Added n former slot key es more) → OnErr r (news ≡ olds) → OnErr r (more ≡ es) → AreOwn n (own_of n ps (map (plain_name n) news)) more
own_kept r n former slot ps olds news own key name es more same at its h names add stay stays =
    by_two r (news ≡ olds ++ own ∷ []) (Added n former slot key es more) (news ≡ olds) (more ≡ es) (AreOwn n (own_of n ps (map (plain_name n) news)) more) names add stay stays
    (own_names_added n former slot ps olds news own key name es more same at its h)
    (λ e f. subst (λ (xs : List OwnName). AreOwn n (own_of n ps (map (plain_name n) xs)) more) (sym e) (subst (AreOwn n (own_of n ps (map (plain_name n) olds))) (sym f) h))

pub own_begun : (n : ℕ) (ps : List Param) (names : List OwnName) (es more : List (Key × ℕ)) → names ≡ [] → more ≡ es → AreOwn n (named n ps) es → AreOwn n (own_of n ps (map (plain_name n) names)) more
own_begun n ps names es more none same h =
    subst (λ (names : List OwnName). AreOwn n (own_of n ps (map (plain_name n) names)) more) (sym none)
    (subst (λ (es : List (Key × ℕ)). AreOwn n (named n ps ++ []) es) (sym same) (subst (λ (xs : List Variable). AreOwn n xs es) (sym (append-nil (named n ps))) h))
