-- The same tokens, cut at other places.
use Rattle.std.proofs.Common.{◌≡◌, List, [], ◌∷◌, ◌++◌, Option, Some, None, refl, sym, ap, subst, ◌∙◌, append_assoc, ◌⊎◌, inl, inr}
use Rattle.setl_tree.specs.declared.kind.Kind.TheVariants as k
use Rattle.setl_tree.specs.Tokens.{Tokens}
use Rattle.setl_tree.specs.Lang.{Then, Split}
use Rattle.setl_tree.specs.Lang as lang

pub then_to : {A B : Type 0} {L L' : Tokens → A → Type 0} {M M' : A → Tokens → B → Type 0} {toks : Tokens} {b : B} → Then L M toks b
    → ((t : Tokens) (a : A) → L t a → L' t a) → ((a : A) (t : Tokens) (x : B) → M a t x → M' a t x) → Then L' M' toks b
then_to s one two = record { front = s.front; back = s.back; value = s.value; parts = s.parts; first = one s.front s.value s.first; second = two s.value s.back _ s.second }

-- only the part behind changes
pub behind : {A B : Type 0} {L : Tokens → A → Type 0} {M M' : A → Tokens → B → Type 0} {toks : Tokens} {b : B} → ((a : A) (t : Tokens) (x : B) → M a t x → M' a t x) → Then L M toks b → Then L M' toks b
behind two s = then_to s (λ t a h. h) two

pub assoc : {A B C : Type 0} {L : Tokens → A → Type 0} {M : A → Tokens → B → Type 0} {N : B → Tokens → C → Type 0} {toks : Tokens} {c : C} → Then (Then L M) N toks c → Then L (λ a. Then (M a) N) toks c
assoc s = record {
  front = s.first.front;
  back = s.first.back ++ s.back;
  value = s.first.value;
  parts = s.parts ∙ ap (λ (z : Tokens). z ++ s.back) s.first.parts ∙ append_assoc s.first.front s.first.back s.back;
  first = s.first.first;
  second = record { front = s.first.back; back = s.back; value = s.value; parts = refl; first = s.first.second; second = s.second };
}

pub unassoc : {A B C : Type 0} {L : Tokens → A → Type 0} {M : A → Tokens → B → Type 0} {N : B → Tokens → C → Type 0} {toks : Tokens} {c : C} → Then L (λ a. Then (M a) N) toks c → Then (Then L M) N toks c
unassoc s = record {
  front = s.front ++ s.second.front;
  back = s.second.back;
  value = s.second.value;
  parts = s.parts ∙ ap (λ (z : Tokens). s.front ++ z) s.second.parts ∙ sym (append_assoc s.front s.second.front s.second.back);
  first = record { front = s.front; back = s.second.front; value = s.value; parts = refl; first = s.first; second = s.second.first };
  second = s.second.second;
}

pub pure_then : {A B : Type 0} {a : A} {M : A → Tokens → B → Type 0} {toks : Tokens} {b : B} → Then (lang.pure a) M toks b → M a toks b
pure_then {A = A} {M = M} {toks = toks} {b = b} s =
    let e : s.back ≡ toks = sym (s.parts ∙ ap (λ (z : Tokens). z ++ s.back) s.first.0) in
    subst (λ (x : A). M x toks b) (sym s.first.1) (subst (λ (z : Tokens). M s.value z b) e s.second)

pub then_pure : {A B : Type 0} {a : A} {M : A → Tokens → B → Type 0} {toks : Tokens} {b : B} → M a toks b → Then (lang.pure a) M toks b
then_pure {a = a} {toks = toks} m = record { front = []; back = toks; value = a; parts = refl; first = (refl, refl); second = m }

-- a value made of the first part's
pub map_then : {A B C : Type 0} {f : A → B} {L : Tokens → A → Type 0} {N : B → Tokens → C → Type 0} {toks : Tokens} {c : C} → Then (Then L (λ a. lang.pure (f a))) N toks c → Then L (λ a. N (f a)) toks c
map_then s = behind (λ a t x h. pure_then h) (assoc s)

pub then_map : {A B C : Type 0} {f : A → B} {L : Tokens → A → Type 0} {N : B → Tokens → C → Type 0} {toks : Tokens} {c : C} → Then L (λ a. N (f a)) toks c → Then (Then L (λ a. lang.pure (f a))) N toks c
then_map s = unassoc (behind (λ a t x h. then_pure h) s)

pub with_second : {A B : Type 0} {L : Tokens → A → Type 0} {M M' : A → Tokens → B → Type 0} {toks : Tokens} {b : B} → (s : Then L M toks b) → M' s.value s.back b → Then L M' toks b
with_second s m = record { front = s.front; back = s.back; value = s.value; parts = s.parts; first = s.first; second = m }

pub with_first : {A B : Type 0} {L L' : Tokens → A → Type 0} {M : A → Tokens → B → Type 0} {toks : Tokens} {b : B} → (s : Then L M toks b) → L' s.front s.value → Then L' M toks b
with_first s l = record { front = s.front; back = s.back; value = s.value; parts = s.parts; first = l; second = s.second }

-- one of two languages in front
pub then_or : {A B : Type 0} {L L' : Tokens → A → Type 0} {M : A → Tokens → B → Type 0} {toks : Tokens} {b : B} → Then (λ t a. L t a ⊎ L' t a) M toks b → Then L M toks b ⊎ Then L' M toks b
then_or s = elim s.first [ inl l ↦ inl (with_first s l) | inr l ↦ inr (with_first s l) ]

pub in_left : {A B : Type 0} {L L' : Tokens → A → Type 0} {M : A → Tokens → B → Type 0} {toks : Tokens} {b : B} → Then L M toks b → Then (λ t a. L t a ⊎ L' t a) M toks b
in_left s = with_first s (inl s.first)

pub in_right : {A B : Type 0} {L L' : Tokens → A → Type 0} {M : A → Tokens → B → Type 0} {toks : Tokens} {b : B} → Then L' M toks b → Then (λ t a. L t a ⊎ L' t a) M toks b
in_right s = with_first s (inr s.first)

-- ---- optional parts

pub optional_none : {A B : Type 0} {L : Tokens → A → Type 0} {K : Option A → Tokens → B → Type 0} {toks : Tokens} {b : B} → K None toks b → Then (lang.optional L) K toks b
optional_none {toks = toks} h = record { front = []; back = toks; value = None; parts = refl; first = refl; second = h }

pub optional_some : {A B : Type 0} {L : Tokens → A → Type 0} {K : Option A → Tokens → B → Type 0} {toks : Tokens} {b : B} → Then L (λ x. K (Some x)) toks b → Then (lang.optional L) K toks b
optional_some s = record { front = s.front; back = s.back; value = Some s.value; parts = s.parts; first = s.first; second = s.second }

optional_apart : {A B : Type 0} (L : Tokens → A → Type 0) (K : Option A → Tokens → B → Type 0) (toks : Tokens) (b : B) (o : Option A) (front back : Tokens) → toks ≡ front ++ back → lang.optional L front o → K o back b
    → K None toks b ⊎ Then L (λ x. K (Some x)) toks b
optional_apart L K toks b None front back parts first second = inl (subst (λ (z : Tokens). K None z b) (sym (parts ∙ ap (λ (z : Tokens). z ++ back) first)) second)
optional_apart L K toks b (Some x) front back parts first second = inr (record { front = front; back = back; value = x; parts = parts; first = first; second = second })

pub optional_to : {A B : Type 0} {L : Tokens → A → Type 0} {K : Option A → Tokens → B → Type 0} {toks : Tokens} {b : B} → Then (lang.optional L) K toks b → K None toks b ⊎ Then L (λ x. K (Some x)) toks b
optional_to {L = L} {K = K} {toks = toks} {b = b} s = optional_apart L K toks b s.value s.front s.back s.parts s.first s.second

-- ---- lists

-- more parts, each behind a comma
abbrev pub more_l : {A : Type 0} → (Tokens → A → Type 0) → Tokens → List A → Type 0
more_l L = lang.many (lang.◌>>◌ (lang.token k.Comma) L)

-- a list of one or more, taken apart and put together
pub separated_to : {A B : Type 0} {L : Tokens → A → Type 0} {K : List A → Tokens → B → Type 0} {toks : Tokens} {y : B} → Then (lang.separated L) K toks y → Then L (λ a. Then (more_l L) (λ xs. K (a ∷ xs))) toks y
separated_to s = behind (λ a t y h. map_then h) (assoc s)

pub separated_from : {A B : Type 0} {L : Tokens → A → Type 0} {K : List A → Tokens → B → Type 0} {toks : Tokens} {y : B} → Then L (λ a. Then (more_l L) (λ xs. K (a ∷ xs))) toks y → Then (lang.separated L) K toks y
separated_from s = unassoc (behind (λ a t y h. then_map h) s)

pub listed_none : {A B : Type 0} {L : Tokens → A → Type 0} {K : List A → Tokens → B → Type 0} {toks : Tokens} {y : B} → K [] toks y → Then (lang.listed L) K toks y
listed_none {toks = toks} h = record { front = []; back = toks; value = []; parts = refl; first = inl (refl, refl); second = h }

pub listed_some : {A B : Type 0} {L : Tokens → A → Type 0} {K : List A → Tokens → B → Type 0} {toks : Tokens} {y : B} → Then L (λ a. Then (more_l L) (λ xs. K (a ∷ xs))) toks y → Then (lang.listed L) K toks y
listed_some s = in_right (separated_from s)

pub listed_to : {A B : Type 0} {L : Tokens → A → Type 0} {K : List A → Tokens → B → Type 0} {toks : Tokens} {y : B} → Then (lang.listed L) K toks y → K [] toks y ⊎ Then L (λ a. Then (more_l L) (λ xs. K (a ∷ xs))) toks y
listed_to s = elim s.first [ inl n ↦ inl (pure_then (with_first s n)) | inr m ↦ inr (separated_to (with_first s m)) ]

-- the first of more parts, apart from the others
pub more_one : {A B : Type 0} {L : Tokens → A → Type 0} {K : List A → Tokens → B → Type 0} {toks : Tokens} {y : B}
    → Then (lang.token k.Comma) (λ _. Then L (λ b. Then (more_l L) (λ xs. K (b ∷ xs)))) toks y → Then (more_l L) K toks y
more_one s = let t = unassoc s in record {
  front = t.front ++ t.second.front;
  back = t.second.back;
  value = t.value ∷ t.second.value;
  parts = t.parts ∙ ap (λ (z : Tokens). t.front ++ z) t.second.parts ∙ sym (append_assoc t.front t.second.front t.second.back);
  first = record { front = t.front; back = t.second.front; parts = refl; first = t.first; second = t.second.first };
  second = t.second.second;
}

pub more_none : {A B : Type 0} {L : Tokens → A → Type 0} {K : List A → Tokens → B → Type 0} {toks : Tokens} {y : B} → K [] toks y → Then (more_l L) K toks y
more_none {toks = toks} h = record { front = []; back = toks; value = []; parts = refl; first = refl; second = h }

more_apart : {A B : Type 0} (L : Tokens → A → Type 0) (K : List A → Tokens → B → Type 0) {toks : Tokens} {y : B} (xs : List A) (front back : Tokens) → toks ≡ front ++ back → more_l L front xs → K xs back y
    → K [] toks y ⊎ Then (lang.token k.Comma) (λ _. Then L (λ b. Then (more_l L) (λ xs. K (b ∷ xs)))) toks y
more_apart L K {y = y} [] front back parts first second = inl (subst (λ (z : Tokens). K [] z y) (sym (parts ∙ ap (λ (z : Tokens). z ++ back) first)) second)
more_apart L K (b ∷ xs) front back parts first second = inr (assoc (record {
  front = first.front;
  back = first.back ++ back;
  value = b;
  parts = parts ∙ ap (λ (z : Tokens). z ++ back) first.parts ∙ append_assoc first.front first.back back;
  first = first.first;
  second = record { front = first.back; back = back; value = xs; parts = refl; first = first.second; second = second };
}))

pub more_to : {A B : Type 0} {L : Tokens → A → Type 0} {K : List A → Tokens → B → Type 0} {toks : Tokens} {y : B} → Then (more_l L) K toks y
    → K [] toks y ⊎ Then (lang.token k.Comma) (λ _. Then L (λ b. Then (more_l L) (λ xs. K (b ∷ xs)))) toks y
more_to {L = L} {K = K} s = more_apart L K s.value s.front s.back s.parts s.first s.second

-- ---- any number of parts

pub many_nil : {A B : Type 0} {L : Tokens → A → Type 0} {K : List A → Tokens → B → Type 0} {toks : Tokens} {y : B} → K [] toks y → Then (lang.many L) K toks y
many_nil {toks = toks} h = record { front = []; back = toks; value = []; parts = refl; first = refl; second = h }

pub many_cons : {A B : Type 0} {L : Tokens → A → Type 0} {K : List A → Tokens → B → Type 0} {toks : Tokens} {y : B} → Then L (λ x. Then (lang.many L) (λ xs. K (x ∷ xs))) toks y → Then (lang.many L) K toks y
many_cons s = record {
  front = s.front ++ s.second.front;
  back = s.second.back;
  value = s.value ∷ s.second.value;
  parts = s.parts ∙ ap (λ (z : Tokens). s.front ++ z) s.second.parts ∙ sym (append_assoc s.front s.second.front s.second.back);
  first = record { front = s.front; back = s.second.front; parts = refl; first = s.first; second = s.second.first };
  second = s.second.second;
}

many_apart : {A B : Type 0} (L : Tokens → A → Type 0) (K : List A → Tokens → B → Type 0) {toks : Tokens} {y : B} (xs : List A) (front back : Tokens) → toks ≡ front ++ back → lang.many L front xs → K xs back y
    → K [] toks y ⊎ Then L (λ x. Then (lang.many L) (λ xs. K (x ∷ xs))) toks y
many_apart L K {y = y} [] front back parts first second = inl (subst (λ (z : Tokens). K [] z y) (sym (parts ∙ ap (λ (z : Tokens). z ++ back) first)) second)
many_apart L K (x ∷ xs) front back parts first second = inr (record {
  front = first.front;
  back = first.back ++ back;
  value = x;
  parts = parts ∙ ap (λ (z : Tokens). z ++ back) first.parts ∙ append_assoc first.front first.back back;
  first = first.first;
  second = record { front = first.back; back = back; value = xs; parts = refl; first = first.second; second = second };
})

pub many_to : {A B : Type 0} (L : Tokens → A → Type 0) (K : List A → Tokens → B → Type 0) {toks : Tokens} {y : B} → Then (lang.many L) K toks y
    → K [] toks y ⊎ Then L (λ x. Then (lang.many L) (λ xs. K (x ∷ xs))) toks y
many_to L K s = many_apart L K s.value s.front s.back s.parts s.first s.second
