-- What is put together of exact codecs is exact.
use Rattle.std.proofs.Common.{◌≡◌, ℕ, zero, suc, Bool, true, List, [], ◌∷◌, ◌++◌, length, Option, Some, None, refl, sym, ap, ◌∙◌, subst}
use Rattle.std.specs.List.{AllByRecursion}
use Rattle.std.proofs.lemmas.List.{append_assoc, append-nil}
use Rattle.std.proofs.lemmas.Option.{same_Some, none-some, cond_some}
use Rattle.setl_image_codec.specs.Codec.{Codec, IsExact, IsForm, OwnTags, always, never, followed, through, checked, if_so, read_as, repeated, read_all, write_all, tagged, read_tagged, then_read, whole, if_ended, decoded}
use Rattle.setl_image_format.specs.CodecClaims.{OneSpelling, DecodesExactly}

-- ---- what a read was

pub then_some : {A B : Type 0} (r : Option (A × List ℕ)) (f : A → List ℕ → Option (B × List ℕ)) (y : B × List ℕ) → then_read r f ≡ Some y → (a : A) × (rest : List ℕ) × (r ≡ Some (a, rest)) × (f a rest ≡ Some y)
then_some None f y is = elim (none-some y is) [ ]
then_some (Some x) f y is = (x.0, x.1, refl, is)

pub as_some : {A : Type 0} (o : Option A) (behind : List ℕ) (y : A × List ℕ) → read_as o behind ≡ Some y → (o ≡ Some y.0) × (behind ≡ y.1)
as_some None behind y is = elim (none-some y is) [ ]
as_some (Some a) behind y is = let same = same_Some (a, behind) y is in (ap (λ t. Some t.0) same, ap (λ t. t.1) same)

-- ---- the parts

pub always_exact : {A : Type 0} (a : A) → IsExact (always a)
always_exact a = record {
  there = λ x behind fits. ap (λ z. Some (z, behind)) (sym fits);
  only = λ bytes x behind is. let same = same_Some (a, bytes) (x, behind) is in (sym (ap (λ t. t.0) same), ap (λ t. t.1) same);
}

pub never_exact : {A : Type 0} → IsExact (never {A = A})
never_exact {A} = record {
  there = λ x behind fits. elim fits [ ];
  only = λ bytes x behind is. elim (none-some (x, behind) is) [ ];
}

pub followed_exact : {A B : Type 0} (c : Codec A) (d : A → Codec B) → IsExact c → ((a : A) → IsExact (d a)) → IsExact (followed c d)
followed_exact {A} {B} c d first second = record {
  there = λ x behind fits.
      rw (append_assoc (c.write x.0) ((d x.0).write x.1) behind)
      (rw (first.there x.0 ((d x.0).write x.1 ++ behind) fits.0)
      (rw ((second x.0).there x.1 behind fits.1) refl));
  only = λ bytes x behind is.
      let a = then_some (c.read bytes) _ (x, behind) is in
      let b = then_some ((d a.0).read a.1) _ (x, behind) a.3 in
      let left = first.only bytes a.0 a.1 a.2 in
      let right = (second a.0).only a.1 b.0 b.1 b.2 in
      let same = same_Some ((a.0, b.0), b.1) (x, behind) b.3 in
      let whole : bytes ≡ (c.write a.0 ++ (d a.0).write b.0) ++ b.1 = left.1 ∙ ap (λ t. c.write a.0 ++ t) right.1 ∙ sym (append_assoc (c.write a.0) ((d a.0).write b.0) b.1) in
      subst (λ y. (c.Fits y.0.0 × (d y.0.0).Fits y.0.1) × (bytes ≡ (c.write y.0.0 ++ (d y.0.0).write y.0.1) ++ y.1)) same ((left.0, right.0), whole);
}

pub through_exact : {A B : Type 0} (parts : A → B) (Ok : A → Type 0) (make : B → Option A) (c : Codec B) → IsForm parts Ok make c → IsExact c → IsExact (through parts Ok make c)
through_exact {A} {B} parts Ok make c form inner = record {
  there = λ a behind fits. rw (inner.there (parts a) behind fits.1) (rw (form.back a fits.0) refl);
  only = λ bytes a behind is.
      let b = then_some (c.read bytes) _ (a, behind) is in
      let m = as_some (make b.0) b.1 (a, behind) b.3 in
      let read = inner.only bytes b.0 b.1 b.2 in
      let made = form.made b.0 a read.0 m.0 in
      ((made.0, subst c.Fits made.1 read.0), read.1 ∙ ap (λ t. c.write t ++ b.1) made.1 ∙ ap (λ t. c.write (parts a) ++ t) m.1);
}

pub checked_exact : {A : Type 0} (test : A → Bool) (c : Codec A) → IsExact c → IsExact (checked test c)
checked_exact test c inner = through_exact (λ a. a) (λ a. test a ≡ true) (if_so test) c (record {
  back = λ a ok. rw ok refl;
  made = λ b a fits is. let it = cond_some (test b) b a is in (subst (λ t. test t ≡ true) it.1 it.0, it.1);
}) inner

-- ---- lists

all_there : {A : Type 0} (c : Codec A) → IsExact c → (xs : List A) (behind : List ℕ) → AllByRecursion c.Fits xs → read_all c (length xs) (write_all c xs ++ behind) ≡ Some (xs, behind)
all_there c exact [] behind fits = refl
all_there c exact (x ∷ xs) behind fits =
    rw (append_assoc (c.write x) (write_all c xs) behind)
    (rw (exact.there x (write_all c xs ++ behind) fits.0)
    (rw (all_there c exact xs behind fits.1) refl))

all_only : {A : Type 0} (c : Codec A) → IsExact c → (n : ℕ) (bytes : List ℕ) (xs : List A) (behind : List ℕ) → read_all c n bytes ≡ Some (xs, behind) → ((length xs ≡ n) × AllByRecursion c.Fits xs) × (bytes ≡ write_all c xs ++ behind)
all_only {A} c exact zero bytes xs behind is =
    let same = same_Some ([], bytes) (xs, behind) is in
    subst (λ (y : List A × List ℕ). ((length y.0 ≡ 0) × AllByRecursion c.Fits y.0) × (bytes ≡ write_all c y.0 ++ y.1)) same ((refl, tt), refl)
all_only {A} c exact (suc n) bytes xs behind is =
    let a = then_some (c.read bytes) _ (xs, behind) is in
    let b = then_some (read_all c n a.1) _ (xs, behind) a.3 in
    let left = exact.only bytes a.0 a.1 a.2 in
    let right = all_only c exact n a.1 b.0 b.1 b.2 in
    let same = same_Some (a.0 ∷ b.0, b.1) (xs, behind) b.3 in
    let whole : bytes ≡ (c.write a.0 ++ write_all c b.0) ++ b.1 = left.1 ∙ ap (λ t. c.write a.0 ++ t) right.1 ∙ sym (append_assoc (c.write a.0) (write_all c b.0) b.1) in
    subst (λ (y : List A × List ℕ). ((length y.0 ≡ suc n) × AllByRecursion c.Fits y.0) × (bytes ≡ write_all c y.0 ++ y.1)) same ((ap suc right.0.0, (left.0, right.0.1)), whole)

pub repeated_exact : {A : Type 0} (c : Codec A) (n : ℕ) → IsExact c → IsExact (repeated c n)
repeated_exact c n exact = record {
  there = λ xs behind fits. subst (λ k. read_all c k (write_all c xs ++ behind) ≡ Some (xs, behind)) fits.0 (all_there c exact xs behind fits.1);
  only = all_only c exact n;
}

-- ---- choices

tagged_only : {A : Type 0} (tag : A → ℕ) (body : ℕ → Codec A) → OwnTags tag body → ((b : ℕ) → IsExact (body b)) → (bytes : List ℕ) (a : A) (behind : List ℕ) → read_tagged body bytes ≡ Some (a, behind) → (body (tag a)).Fits a × (bytes ≡ tag a ∷ ((body (tag a)).write a ++ behind))
tagged_only tag body own exact [] a behind is = elim (none-some (a, behind) is) [ ]
tagged_only tag body own exact (b ∷ bytes) a behind is =
    let read = (exact b).only bytes a behind is in
    let same = own b a read.0 in
    subst (λ t. (body t).Fits a × (b ∷ bytes ≡ t ∷ ((body t).write a ++ behind))) same (read.0, ap (λ t. b ∷ t) read.1)

pub tagged_exact : {A : Type 0} (tag : A → ℕ) (body : ℕ → Codec A) → OwnTags tag body → ((b : ℕ) → IsExact (body b)) → IsExact (tagged tag body)
tagged_exact tag body own exact = record {
  there = λ a behind fits. (exact (tag a)).there a behind fits;
  only = tagged_only tag body own exact;
}

-- ---- no spelling begins another

pub one_spelling : {A : Type 0} (c : Codec A) → IsExact c → OneSpelling c
one_spelling {A} c exact a b x y front back left right same =
    let read_left : c.read (x ++ front) ≡ Some (a, front) = rw left.1 (exact.there a front left.0) in
    let read_right : c.read (y ++ back) ≡ Some (b, back) = rw right.1 (exact.there b back right.0) in
    let both = same_Some (a, front) (b, back) (sym read_left ∙ ap c.read same ∙ read_right) in
    let values : a ≡ b = ap (λ t. t.0) both in
    (values, left.1 ∙ ap c.write values ∙ sym right.1, ap (λ t. t.1) both)

-- ---- all of the bytes

ended_some : {A : Type 0} (x : A) (rest : List ℕ) (a : A) → if_ended x rest ≡ Some a → (x ≡ a) × (rest ≡ [])
ended_some x [] a is = (same_Some x a is, refl)
ended_some x (b ∷ bs) a is = absurd (none-some a is)

whole_some : {A : Type 0} (r : Option (A × List ℕ)) (a : A) → whole r ≡ Some a → r ≡ Some (a, [])
whole_some None a is = absurd (none-some a is)
whole_some (Some x) a is = let e = ended_some x.0 x.1 a is in ap (λ t. Some (t, x.1)) e.0 ∙ ap (λ t. Some (a, t)) e.1

decoded_again : {A : Type 0} (c : Codec A) → IsExact c → (a : A) → c.Fits a → decoded c (c.write a) ≡ Some a
decoded_again c exact a fits = ap (λ t. whole (c.read t)) (sym (append-nil (c.write a))) ∙ ap whole (exact.there a [] fits)

pub decodes_exactly : {A : Type 0} (c : Codec A) → IsExact c → DecodesExactly c
decodes_exactly {A} c exact = (
  decoded_again c exact,
  (λ bytes a is. let read = exact.only bytes a [] (whole_some (c.read bytes) a is) in (read.0, read.1 ∙ append-nil (c.write a))),
  (λ bytes none a spelled. none-some a (sym none ∙ ap (decoded c) spelled.1 ∙ decoded_again c exact a spelled.0)),
)
