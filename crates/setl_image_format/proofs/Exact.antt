-- The codecs of numbers and texts are exact.
use Rattle.std.proofs.Common.{◌≡◌, ℕ, zero, suc, ◌+◌, ◌-◌, ◌*◌, ◌/◌, ◌%◌, ◌^◌, ◌<◌, List, [], ◌∷◌, ◌++◌, length, take, drop, Some, refl, sym, ap, ◌∙◌, subst, inl, inr, arith}
use Rattle.std.specs.Prelude.{nat_lt}
use Rattle.std.proofs.lemmas.List.{take_at, drop_at, length-append, length-take-le, take-append-drop}
use Rattle.std.specs.Bool.{⊤}
use Rattle.std.proofs.lemmas.Option.{same_Some, none-some, cond_some}
use Rattle.std.proofs.lemmas.Bool.{cases_lt, lt-ltb, le-ltb, ltb-true}
use Rattle.setl_image_codec.specs.Codec.{Codec, IsExact, followed, repeated}
use Rattle.setl_image_codec.specs.Numbers.{groups, put_low, read_groups, number_below, number, integer, listed, sized}
use Rattle.setl_image_codec.specs.Texts.{bytes_of, counted, all_are, is_text_byte, is_name}
use Rattle.setl_image_format.specs.CodecClaims.{NumbersAreExact, TextsAreExact}
use Rattle.setl_image_format.proofs.Combined.{then_some, checked_exact, followed_exact, through_exact, repeated_exact}

-- ---- numbers

low_there : (top b high : ℕ) (behind : List ℕ) → 0 < high → high < top → put_low top b high behind ≡ Some (b - 128 + 128 * high, behind)
low_there top b zero behind more below = absurd (omega (arith, more))
low_there top b (suc high) behind more below = rw (lt-ltb (suc high) top below) refl

whole_number : (n : ℕ) → 128 + n % 128 - 128 + 128 * (n / 128) ≡ n
whole_number n = omega arith

groups_there : (top most n : ℕ) (behind : List ℕ) → 0 < n → n < 128 ^ most → n < 128 * top → read_groups top most (groups most n ++ behind) ≡ Some (n, behind)
groups_there top zero n behind more short below = absurd (omega (arith, more, short))
groups_there top (suc most) n behind more short below = elim (cases_lt n 128) [
  | inl less ↦ rw (lt-ltb n 128 less) (rw (lt-ltb n 128 less) refl)
  | inr large ↦
      let again = groups_there top most (n / 128) behind (omega (arith, large)) (omega (arith, short)) (omega (arith, below)) in
      rw (le-ltb n 128 large)
      (rw (le-ltb (128 + n % 128) 128 (omega arith))
      (rw (lt-ltb (128 + n % 128) 256 (omega arith))
      (rw again
      (low_there top (128 + n % 128) (n / 128) behind (omega (arith, large)) (omega (arith, below)) ∙ ap (λ t. Some (t, behind)) (whole_number n)))))
]

low_only : (top b high n : ℕ) (rest behind : List ℕ) → put_low top b high rest ≡ Some (n, behind) → (0 < high) × (high < top) × (n ≡ b - 128 + 128 * high) × (rest ≡ behind)
low_only top b zero n rest behind is = absurd (none-some (n, behind) is)
low_only top b (suc high) n rest behind is =
    let it = cond_some (nat_lt (suc high) top) (b - 128 + 128 * suc high, rest) (n, behind) is in
    (omega arith, ltb-true (suc high) top it.0, sym (ap (λ t. t.0) it.1), ap (λ t. t.1) it.1)

groups_only : (top most : ℕ) (bytes : List ℕ) (n : ℕ) (behind : List ℕ) → 0 < top → read_groups top most bytes ≡ Some (n, behind) → (n < 128 * top) × (bytes ≡ groups most n ++ behind)
groups_only top zero bytes n behind some is = absurd (none-some (n, behind) is)
groups_only top (suc most) [] n behind some is = absurd (none-some (n, behind) is)
groups_only top (suc most) (b ∷ bytes) n behind some is = elim (cases_lt b 128) [
  | inl less ↦
      let same = same_Some (b, bytes) (n, behind) (rw (lt-ltb b 128 less) at is) in
      let value : b ≡ n = ap (λ t. t.0) same in
      (omega (arith, some, less, value), rw (lt-ltb n 128 (omega (arith, less, value))) (ap (λ t. t.0 ∷ t.1) same))
  | inr large ↦
      let left = rw (le-ltb b 128 large) at is in
      elim (cases_lt b 256) [
        | inl byte ↦
            let h = then_some (read_groups top most bytes) (put_low top b) (n, behind) (rw (lt-ltb b 256 byte) at left) in
            let low = low_only top b h.0 n h.1 behind h.3 in
            let more = groups_only top most bytes h.0 h.1 some h.2 in
            let head : 128 + n % 128 ≡ b = omega (arith, low.2, large, byte) in
            let higher : n / 128 ≡ h.0 = omega (arith, low.2, large, byte) in (
              omega (arith, low.1, low.2, large, byte),
              rw (le-ltb n 128 (omega (arith, low.0, low.2, large)))
                  (rw head (rw higher (ap (λ t. b ∷ t) (more.1 ∙ ap (λ t. groups most h.0 ++ t) low.3)))),
            )
        | inr none ↦ absurd (none-some (n, behind) (rw (le-ltb b 256 none) at left))
      ]
]

number_exact : (top most : ℕ) → 0 < top → (suc most ≡ suc most) → ((n : ℕ) → n < 128 * top → n < 128 ^ suc most) → IsExact (number_below top (suc most))
number_exact top most some same enough = record {
  there = λ n behind below. elim (cases_lt 0 n) [
    | inl more ↦ groups_there top (suc most) n behind more (enough n below) below
    | inr none ↦ let zeros : 0 ≡ n = omega (arith, none) in subst (λ t. read_groups top (suc most) (groups (suc most) t ++ behind) ≡ Some (t, behind)) zeros refl
  ];
  only = λ bytes n behind is. groups_only top (suc most) bytes n behind some is;
}

pub the_number : IsExact number
the_number = number_exact (2 ^ 25) 4 (omega arith) refl (λ n below. omega (arith, below))

the_integer : IsExact integer
the_integer = number_exact (2 ^ 120) 18 (omega arith) refl (λ n below. omega (arith, below))

pub numbers_are_exact : NumbersAreExact
numbers_are_exact = (the_number, the_integer)

-- ---- lists

pub sized_exact : {A : Type 0} (size : A → ℕ) (body : ℕ → Codec A) → ((n : ℕ) (a : A) → (body n).Fits a → n ≡ size a) → ((n : ℕ) → IsExact (body n)) → IsExact (sized size body)
sized_exact {A} size body own exact = through_exact {B = ℕ × A} (λ a. (size a, a)) (λ a. ⊤) (λ x. Some x.1) (followed number body) (record {
  back = λ a ok. refl;
  made = λ b a fits is.
      let same : b.1 ≡ a = same_Some b.1 a is in
      (tt, subst (λ t. b ≡ (t, a)) {x = b.0} (own b.0 b.1 fits.1 ∙ ap size same) (ap (λ t. (b.0, t)) same));
}) (followed_exact number body the_number exact)

pub listed_exact : {A : Type 0} (c : Codec A) → IsExact c → IsExact (listed c)
listed_exact c exact = sized_exact length (repeated c) (λ n xs fits. sym fits.0) (λ n. repeated_exact c n exact)

-- ---- texts

bytes_exact : (n : ℕ) → IsExact (bytes_of n)
bytes_exact n = record {
  there = λ bs behind fits.
      rw (le-ltb (length (bs ++ behind)) n (omega (arith, fits, length-append bs behind)))
      (rw (take_at bs behind n fits) (rw (drop_at bs behind n fits) refl));
  only = λ bytes bs behind is. elim (cases_lt (length bytes) n) [
    | inl less ↦ absurd (none-some (bs, behind) (rw (lt-ltb (length bytes) n less) at is))
    | inr large ↦
        let same = same_Some (take n bytes, drop n bytes) (bs, behind) (rw (le-ltb (length bytes) n large) at is) in
        let front : take n bytes ≡ bs = ap (λ t. t.0) same in (
          sym (ap length front) ∙ length-take-le n bytes large,
          sym (take-append-drop n bytes) ∙ ap (λ t. t.0 ++ t.1) same,
        )
  ];
}

pub counted_exact : IsExact counted
counted_exact = sized_exact length bytes_of (λ n bs fits. sym fits) bytes_exact

pub texts_are_exact : TextsAreExact
texts_are_exact = (checked_exact (all_are is_text_byte) counted counted_exact, checked_exact is_name counted counted_exact)
