-- Building derivations: what tokens spell where enough nestings may open.
use Rattle.std.proofs.Common.{◌≡◌, ℕ, zero, suc, ◌+◌, ◌≤◌, List, [], ◌∷◌, ◌++◌, map, Option, Some, None, refl, sym, subst, arith, inl, inr}
use Rattle.std.proofs.lemmas.List.{append-nil}
use Rattle.setl_tree.specs.declared.kind.Kind.{Kind}
use Rattle.setl_tree.specs.declared.kind.Kind.TheVariants as k
use Rattle.setl_tree.specs.Tokens.{Token, Tokens}
use Rattle.setl_tree.specs.Lang.{Lang, Then, IsToken}
use Rattle.setl_tree.specs.Lang as lang
use Rattle.setl_tree.specs.Canonical.{sign, name_at, behind_commas, with_commas, all_of}
use Rattle.setl_parse_reading.proofs.Regroup.{more_l}

-- from some number of nestings on
pub record Spells {A : Type 0} (L : ℕ → Tokens → A → Type 0) (toks : Tokens) (a : A) : Type 0 where
  pub from : ℕ
  pub at : (room : ℕ) → from ≤ room → L room toks a

pub seq : {A B : Type 0} {L : Tokens → A → Type 0} {M : A → Tokens → B → Type 0} {b : B} (t1 t2 : Tokens) (a : A) → L t1 a → M a t2 b → Then L M (t1 ++ t2) b
seq t1 t2 a one two = record { front = t1; back = t2; value = a; parts = refl; first = one; second = two }

-- a token, and what follows it
pub then_token : {B : Type 0} {kind : Kind} {M : Token → Tokens → B → Type 0} {b : B} (t : Token) (rest : Tokens) → t.kind ≡ kind → M t rest b → Then (lang.token kind) M (t ∷ rest) b
then_token t rest h m = record { front = t ∷ []; back = rest; value = t; parts = refl; first = record { alone = refl; kind = h }; second = m }

pub then_name : {B : Type 0} {M : List ℕ → Tokens → B → Type 0} {b : B} (line : ℕ) (x : List ℕ) (rest : Tokens) → M x rest b → Then lang.name M (name_at line x ∷ rest) b
then_name line x rest m = record {
  front = name_at line x ∷ [];
  back = rest;
  value = x;
  parts = refl;
  first = record { front = name_at line x ∷ []; back = []; value = name_at line x; parts = refl; first = record { alone = refl; kind = refl }; second = (refl, refl) };
  second = m;
}

pub then_opening : {B : Type 0} {kind : Kind} {M : Token → Tokens → B → Type 0} {b : B} (room : ℕ) (t : Token) (rest : Tokens) → t.kind ≡ kind → M t rest b → Then (lang.opening (suc room) kind) M (t ∷ rest) b
then_opening room t rest h m = record { front = t ∷ []; back = rest; value = t; parts = refl; first = record { alone = refl; kind = h }; second = m }

pub then_one_of : {A B : Type 0} {meaning : Kind → Option A} {M : A → Tokens → B → Type 0} {a : A} {b : B} (t : Token) (rest : Tokens) → meaning t.kind ≡ Some a → M a rest b → Then (lang.one_of meaning) M (t ∷ rest) b
then_one_of {a = a} t rest h m = record { front = t ∷ []; back = rest; value = a; parts = refl; first = record { it = t; alone = refl; means = h }; second = m }

pub then_nothing : {A B : Type 0} {L : Tokens → A → Type 0} {M : Option A → Tokens → B → Type 0} {b : B} (rest : Tokens) → M None rest b → Then (lang.optional L) M rest b
then_nothing rest m = record { front = []; back = rest; value = None; parts = refl; first = refl; second = m }

pub then_some : {A B : Type 0} {L : Tokens → A → Type 0} {M : Option A → Tokens → B → Type 0} {b : B} (t1 t2 : Tokens) (a : A) → L t1 a → M (Some a) t2 b → Then (lang.optional L) M (t1 ++ t2) b
then_some t1 t2 a one two = record { front = t1; back = t2; value = Some a; parts = refl; first = one; second = two }

pub ends : {A : Type 0} {a : A} → lang.pure a [] a
ends = (refl, refl)

-- one nesting more than the inside needs
pub outside : (P : ℕ → Type 0) (n : ℕ) → ((m : ℕ) → n ≤ m → P (suc m)) → (room : ℕ) → suc n ≤ room → P room
outside P n go zero le = absurd (omega (arith, le))
outside P n go (suc m) le = go m (omega (arith, le))

-- ---- facts about each item of a list

abbrev pub AllOf : {A : Type 0} → (A → Type 0) → List A → Type 0
AllOf P [] = Unit {0}
AllOf P (x ∷ xs) = P x × AllOf P xs

abbrev pub OfSome : {A : Type 0} → (A → Type 0) → Option A → Type 0
OfSome P None = Unit {0}
OfSome P (Some x) = P x

pub from_many : {A : Type 0} (L : Tokens → A → Type 0) (P : A → Type 0) → ((t : Tokens) (a : A) → L t a → P a) → (toks : Tokens) (xs : List A) → lang.many L toks xs → AllOf P xs
from_many L P good toks [] s = tt
from_many L P good toks (x ∷ xs) s = (good s.front x s.first, from_many L P good s.back xs s.second)

pub from_optional : {A : Type 0} (L : Tokens → A → Type 0) (P : A → Type 0) → ((t : Tokens) (a : A) → L t a → P a) → (toks : Tokens) (o : Option A) → lang.optional L toks o → OfSome P o
from_optional L P good toks None s = tt
from_optional L P good toks (Some x) s = good toks x s

-- a list of at least one item
pub record Several {A : Type 0} (P : A → Type 0) (xs : List A) : Type 0 where
  pub head : A
  pub tail : List A
  pub is : head ∷ tail ≡ xs
  pub good_head : P head
  pub good_tail : AllOf P tail

pub from_separated : {A : Type 0} (L : Tokens → A → Type 0) (P : A → Type 0) → ((t : Tokens) (a : A) → L t a → P a) → (toks : Tokens) (xs : List A) → lang.separated L toks xs → Several P xs
from_separated L P good toks xs s = record {
  head = s.value;
  tail = s.second.value;
  is = s.second.second.1;
  good_head = good s.front s.value s.first;
  good_tail = from_many (lang.◌>>◌ (lang.token k.Comma) L) P (λ t a h. good h.back a h.second) s.second.front s.second.value s.second.first;
}

pub all_of_several : {A : Type 0} {P : A → Type 0} (xs : List A) → Several P xs → AllOf P xs
all_of_several {P = P} xs s = subst (AllOf P) s.is (s.good_head, s.good_tail)

pub from_listed : {A : Type 0} (L : Tokens → A → Type 0) (P : A → Type 0) → ((t : Tokens) (a : A) → L t a → P a) → (toks : Tokens) (xs : List A) → lang.listed L toks xs → AllOf P xs
from_listed L P good toks xs s = elim s [
  | inl none ↦ subst (AllOf P) none.1 tt
  | inr some ↦ all_of_several xs (from_separated L P good toks xs some)
]

-- ---- lists, built

module _ {A : Type 0} (f : A → Tokens) (L : ℕ → Tokens → A → Type 0) where
  -- each item spells where enough nestings may open
  pub spells_many : (xs : List A) → AllOf (λ x. Spells L (f x) x) xs → Spells (λ room. lang.many (L room)) (all_of (map f xs)) xs
  spells_many [] all = record { from = 0; at = λ room le. refl }
  spells_many (x ∷ xs) all =
      let others = spells_many xs all.1 in
      record { from = all.0.from + others.from; at = λ room le. record { front = f x; back = all_of (map f xs); parts = refl; first = all.0.at room (omega (arith, le)); second = others.at room (omega (arith, le)) } }

  pub spells_more : (xs : List A) → AllOf (λ x. Spells L (f x) x) xs → Spells (λ room. more_l (L room)) (behind_commas (map f xs)) xs
  spells_more [] all = record { from = 0; at = λ room le. refl }
  spells_more (x ∷ xs) all =
      let others = spells_more xs all.1 in
      record {
        from = all.0.from + others.from;
        at = λ room le. record {
          front = sign k.Comma ∷ f x;
          back = behind_commas (map f xs);
          parts = refl;
          first = then_token (sign k.Comma) (f x) refl (all.0.at room (omega (arith, le)));
          second = others.at room (omega (arith, le));
        };
      }

  pub spells_separated : (x : A) (xs : List A) → Spells L (f x) x → AllOf (λ x. Spells L (f x) x) xs → Spells (λ room. lang.separated (L room)) (with_commas (map f (x ∷ xs))) (x ∷ xs)
  spells_separated x xs first all =
      let others = spells_more xs all in
      record {
        from = first.from + others.from;
        at = λ room le. seq (f x) (behind_commas (map f xs)) x (first.at room (omega (arith, le)))
            (record { front = behind_commas (map f xs); back = []; value = xs; parts = sym (append-nil (behind_commas (map f xs))); first = others.at room (omega (arith, le)); second = (refl, refl) });
      }

  pub spells_several : (xs : List A) → Several (λ x. Spells L (f x) x) xs → Spells (λ room. lang.separated (L room)) (with_commas (map f xs)) xs
  spells_several xs s = subst (λ (z : List A). Spells (λ room. lang.separated (L room)) (with_commas (map f z)) z) s.is (spells_separated s.head s.tail s.good_head s.good_tail)

  pub spells_listed : (xs : List A) → AllOf (λ x. Spells L (f x) x) xs → Spells (λ room. lang.listed (L room)) (with_commas (map f xs)) xs
  spells_listed [] all = record { from = 0; at = λ room le. inl (refl, refl) }
  spells_listed (x ∷ xs) all = let s = spells_separated x xs all.0 all.1 in record { from = s.from; at = λ room le. inr (s.at room le) }

-- a fact that follows from another for each item
pub all_to : {A : Type 0} {P Q : A → Type 0} (xs : List A) → ((x : A) → P x → Q x) → AllOf P xs → AllOf Q xs
all_to [] to all = tt
all_to (x ∷ xs) to all = (to x all.0, all_to xs to all.1)

pub several_to : {A : Type 0} {P Q : A → Type 0} {xs : List A} → ((x : A) → P x → Q x) → Several P xs → Several Q xs
several_to to s = record { head = s.head; tail = s.tail; is = s.is; good_head = to s.head s.good_head; good_tail = all_to s.tail to s.good_tail }

-- the last part of a sequence
pub last : {A B : Type 0} {L : Tokens → A → Type 0} (f : A → B) (toks : Tokens) (a : A) → L toks a → Then L (λ a. lang.pure (f a)) toks (f a)
last f toks a s = record { front = toks; back = []; value = a; parts = sym (append-nil toks); first = s; second = (refl, refl) }

pub then_opening_one : {A B : Type 0} {meaning : Kind → Option A} {M : A → Tokens → B → Type 0} {b : B} (room : ℕ) (t : Token) (a : A) (rest : Tokens) → meaning t.kind ≡ Some a → M a rest b → Then (lang.opening_one_of (suc room) meaning) M (t ∷ rest) b
then_opening_one room t a rest h m = record { front = t ∷ []; back = rest; value = a; parts = refl; first = record { it = t; alone = refl; means = h }; second = m }

pub opened_means : {A : Type 0} (room : ℕ) (meaning : Kind → Option A) (toks : Tokens) (a : A) → lang.opening_one_of room meaning toks a → lang.one_of meaning toks a
opened_means zero meaning toks a s = absurd s
opened_means (suc room) meaning toks a s = s

pub some_is : {A : Type 0} {a b : A} → Some a ≡ Some b → a ≡ b
some_is {a = a} {b = b} h = cc
