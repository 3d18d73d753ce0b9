-- The codec of images is exact.
use Rattle.std.proofs.Common.{◌≡◌, ℕ, true, List, [], ◌∷◌, ◌++◌, length, map, Some, refl, sym, ap, ◌∙◌, inl, inr}
use Rattle.std.specs.Prelude.{nat_eq, nat_le, nat_lt, ◌&&◌, ◌^◌, decimal, codes}
use Rattle.std.specs.Str.Parse.{digits_value}
use Rattle.std.proofs.lemmas.Option.{same_Some, none-some, cond_some}
use Rattle.std.proofs.lemmas.Bool.{false≢true, cases_Bool, and_parts, eqb-true, eq-eqb}
use Rattle.setl_tree.specs.declared.tree.Param.{Param}
use Rattle.setl_tree.specs.declared.tree.Passing.{Passing}
use Rattle.setl_tree.specs.declared.tree.Passing.TheVariants.{Rd, Wr, Rw}
use Rattle.setl_modes.specs.Modes.{Mode}
use Rattle.setl_code.specs.declared.code.OwnName.{OwnName}
use Rattle.setl_code.specs.declared.code.OwnName.TheVariants as own
use Rattle.setl_code.specs.declared.code.Step.{Step}
use Rattle.setl_code.specs.declared.code.Body.{Body}
use Rattle.setl_image_codec.specs.Codec.{Codec, IsExact, checked, followed, never, pair}
use Rattle.setl_image_codec.specs.Numbers.{listed, number}
use Rattle.setl_image_codec.specs.Texts.{counted, is_name, name}
use Rattle.setl_image_format.proofs.Combined.{never_exact, followed_exact, checked_exact}
use Rattle.setl_image_format.proofs.Exact.{the_number, listed_exact, counted_exact, texts_are_exact}
use Rattle.setl_image_format.specs.Steps.{step}
use Rattle.setl_image_format.specs.ModeCodec.{mode}
use Rattle.setl_image_format.specs.ImageCodec.{passing_place, passing, param, Named, section, Head, slots, body, Image, read_after, after_byte, marked, some_bodies, image}
use Rattle.setl_image_format.specs.OwnNames.{own_name}
use Rattle.setl_image_format.specs.Claims.{smallest, smallest_bytes}
use Rattle.setl_image_format.proofs.ExactSteps.{placed_exact, step_exact}
use Rattle.setl_image_format.proofs.ExactNames.{the_own_name}
use Rattle.setl_image_format.proofs.ExactModes.{built_exact, mode_exact}

the_name : IsExact name
the_name = texts_are_exact.1

the_passing : IsExact passing
the_passing = placed_exact passing_place (Rd ∷ Wr ∷ Rw ∷ []) (refl, (refl, (refl, tt)))

the_param : IsExact param
the_param = built_exact {B = Passing × (List ℕ × ℕ)} (λ (p : Param). (p.passing, (p.name, p.line))) (λ x. Some (record { passing = x.0; name = x.1.0; line = x.1.1 })) (pair passing (pair name number))
    (λ x p is. ap {B = Passing × (List ℕ × ℕ)} (λ (p : Param). (p.passing, (p.name, p.line))) (same_Some (record { passing = x.0; name = x.1.0; line = x.1.1 }) p is))
    (followed_exact passing (λ p. pair name number) the_passing (λ p. followed_exact name (λ n. number) the_name (λ n. the_number)))

named_exact : (bases : List Mode) → IsExact (pair name (mode bases))
named_exact bases = followed_exact name (λ n. mode bases) the_name (λ n. mode_exact bases)

the_section : IsExact section
the_section = followed_exact (listed (pair name (mode []))) (λ (bases : List Named). listed (pair name (mode (map (λ b. b.1) bases))))
    (listed_exact (pair name (mode [])) (named_exact []))
    (λ bases. listed_exact (pair name (mode (map (λ b. b.1) bases))) (named_exact (map (λ b. b.1) bases)))

-- ---- the whole

none_left : (xs : List ⊥) → xs ≡ []
none_left [] = refl
none_left (x ∷ xs) = absurd x

body_parts : (x : Head × List Step) → x ≡ ((x.0.0, (x.0.1.0, ([], ([], x.0.1.1.1.1)))), x.1)
body_parts x =
    ap {B = Head × List Step} (λ e. ((x.0.0, (x.0.1.0, (e, (x.0.1.1.1.0, x.0.1.1.1.1)))), x.1)) (none_left x.0.1.1.0)
    ∙ ap {B = Head × List Step} (λ e. ((x.0.0, (x.0.1.0, ([], (e, x.0.1.1.1.1)))), x.1)) (none_left x.0.1.1.1.0)

body_exact : (globals : ℕ) → IsExact (body globals)
body_exact globals = built_exact {B = Head × List Step}
    (λ (b : Body). ((b.name, (b.parameters, ([], ([], b.names)))), b.steps))
    (λ x. Some (record { name = x.0.0; parameters = x.0.1.0; names = x.0.1.1.1.1; steps = x.1 }))
    (followed (pair name (pair (listed param) (pair (listed never) (pair (listed never) (listed own_name))))) (λ h. listed (step globals (slots h))))
    (λ x b is. body_parts x ∙ ap {B = Head × List Step} (λ (b : Body). ((b.name, (b.parameters, ([], ([], b.names)))), b.steps)) (same_Some (record { name = x.0.0; parameters = x.0.1.0; names = x.0.1.1.1.1; steps = x.1 }) b is))
    (followed_exact (pair name (pair (listed param) (pair (listed never) (pair (listed never) (listed own_name))))) (λ h. listed (step globals (slots h)))
    (followed_exact name _ the_name (λ n. followed_exact (listed param) _ (listed_exact param the_param) (λ ps. followed_exact (listed never) _ (listed_exact never never_exact) (λ e. followed_exact (listed never) _ (listed_exact never never_exact) (λ e. listed_exact own_name the_own_name)))))
    (λ h. listed_exact (step globals (slots h)) (step_exact globals (slots h))))

after_only : {A : Type 0} (b : ℕ) (c : Codec A) → IsExact c → (bytes : List ℕ) (a : A) (rest : List ℕ) → read_after b c bytes ≡ Some (a, rest) → c.Fits a × (bytes ≡ b ∷ (c.write a ++ rest))
after_only b c exact [] a rest is = absurd (none-some (a, rest) is)
after_only b c exact (x ∷ bytes) a rest is = elim (cases_Bool (nat_eq b x)) [
  | inl so ↦
      let read = exact.only bytes a rest (rw so at is) in
      (read.0, ap (λ t. t ∷ bytes) (sym (eqb-true b x so)) ∙ ap (λ t. b ∷ t) read.1)
  | inr not ↦ absurd (none-some (a, rest) (rw not at is))
]

after_exact : {A : Type 0} (b : ℕ) (c : Codec A) → IsExact c → IsExact (after_byte b c)
after_exact b c exact = record {
  there = λ a rest fits. rw (eq-eqb b b refl) (exact.there a rest fits);
  only = after_only b c exact;
}

marked_exact : {A : Type 0} (bs : List ℕ) (c : Codec A) → IsExact c → IsExact (marked bs c)
marked_exact [] c exact = exact
marked_exact (b ∷ bs) c exact = after_exact b (marked bs c) (marked_exact bs c exact)

pub image_exact : IsExact image
image_exact = marked_exact (codes "SETLIMG1") _ (built_exact {B = List (List ℕ) × ((List Named × List Named) × List Body)}
    (λ (i : Image). (i.code.vars, ((i.bases, i.vars), i.code.bodies)))
    (λ x. Some (record { code = record { vars = x.0; bodies = x.1.1 }; bases = x.1.0.0; vars = x.1.0.1 }))
    (followed (listed name) (λ vars. pair section (checked some_bodies (listed (body (length vars))))))
    (λ x i is. ap {B = List (List ℕ) × ((List Named × List Named) × List Body)} (λ (i : Image). (i.code.vars, ((i.bases, i.vars), i.code.bodies))) (same_Some (record { code = record { vars = x.0; bodies = x.1.1 }; bases = x.1.0.0; vars = x.1.0.1 }) i is))
    (followed_exact (listed name) (λ vars. pair section (checked some_bodies (listed (body (length vars))))) (listed_exact name the_name)
    (λ vars. followed_exact section (λ s. checked some_bodies (listed (body (length vars)))) the_section
    (λ s. checked_exact some_bodies (listed (body (length vars))) (listed_exact (body (length vars)) (body_exact (length vars)))))))

-- ---- worked rows

pub smallest_is_written : image.write smallest ≡ smallest_bytes
smallest_is_written = refl

pub smallest_is_read : image.read smallest_bytes ≡ Some (smallest, [])
smallest_is_read = refl
