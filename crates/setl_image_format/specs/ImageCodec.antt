-- How an image is spelled.
use Rattle.std.specs.Prelude.{ℕ, ◌+◌, Bool, true, false, List, [], ◌∷◌, ◌++◌, length, map, Option, Some, None, cond, nat_eq, nat_le, nat_lt, ◌&&◌, ◌^◌, codes, decimal}
use Rattle.setl_tree.specs.declared.tree.Param.{Param}
use Rattle.setl_tree.specs.declared.tree.Passing.{Passing}
use Rattle.setl_tree.specs.declared.tree.Passing.TheVariants.{Rd, Wr, Rw}
use Rattle.setl_modes.specs.Modes.{Mode}
use Rattle.setl_code.specs.declared.code.OwnName.{OwnName}
use Rattle.setl_code.specs.declared.code.OwnName.TheVariants as own
use Rattle.setl_code.specs.declared.code.Step.{Step}
use Rattle.setl_code.specs.declared.code.Body.{Body}
use Rattle.setl_code.specs.declared.code.Code.{Code}
use Rattle.setl_image_codec.specs.Codec.{Codec, checked, followed, never, pair}
use Rattle.setl_image_codec.specs.Numbers.{listed, number}
use Rattle.setl_image_codec.specs.Texts.{counted, is_name, name}
use Rattle.std.specs.Str.Parse.{digits_value}
use Rattle.setl_image_format.specs.Steps.{placed, step}
use Rattle.setl_image_format.specs.ModeCodec.{built, mode}
use Rattle.setl_image_format.specs.OwnNames.{own_name}

-- ---- parameters

abbrev pub passing_place : Passing → ℕ
passing_place Rd = 0
passing_place Wr = 1
passing_place Rw = 2

abbrev pub passing : Codec Passing
passing = placed passing_place (Rd ∷ Wr ∷ Rw ∷ [])

abbrev pub param : Codec Param
param = built {B = Passing × (List ℕ × ℕ)} (λ (p : Param). (p.passing, (p.name, p.line))) (λ x. Some (record { passing = x.0; name = x.1.0; line = x.1.1 })) (pair passing (pair name number))

-- ---- modes

-- a name with a mode
abbrev pub Named : Type 0
Named = List ℕ × Mode

-- the bases of a section, whose own modes name none, and the declared variables
abbrev pub section : Codec (List Named × List Named)
section = followed (listed (pair name (mode []))) (λ bases. listed (pair name (mode (map (λ b. b.1) bases))))

-- ---- bodies

abbrev pub Head : Type 0
Head = List ℕ × (List Param × (List ⊥ × (List ⊥ × List OwnName)))

abbrev pub slots : Head → ℕ
slots h = length h.1.0 + length h.1.1.1.1

-- a name, the parameters, no bases and no declared variables, the own names, and the steps
abbrev pub body : (globals : ℕ) → Codec Body
body globals = built {B = Head × List Step}
    (λ (b : Body). ((b.name, (b.parameters, ([], ([], b.names)))), b.steps))
    (λ x. Some (record { name = x.0.0; parameters = x.0.1.0; names = x.0.1.1.1.1; steps = x.1 }))
    (followed (pair name (pair (listed param) (pair (listed never) (pair (listed never) (listed own_name))))) (λ h. listed (step globals (slots h))))

-- ---- the whole

pub record Image : Type 0 where
  pub code : Code
  pub bases : List Named
  pub vars : List Named

-- a byte, and behind it a value
abbrev pub read_after : {A : Type 0} → ℕ → Codec A → List ℕ → Option (A × List ℕ)
read_after b c [] = None
read_after b c (x ∷ bytes) = cond (nat_eq b x) (c.read bytes) None

abbrev pub after_byte : {A : Type 0} → ℕ → Codec A → Codec A
after_byte b c = record { write = λ a. b ∷ c.write a; Fits = c.Fits; read = read_after b c }

abbrev pub marked : {A : Type 0} → List ℕ → Codec A → Codec A
marked [] c = c
marked (b ∷ bs) c = after_byte b (marked bs c)

abbrev pub some_bodies : List Body → Bool
some_bodies [] = false
some_bodies (b ∷ bs) = true

-- the names in `var`, the section of the main program, and the bodies, at least one
abbrev pub image_behind : Codec Image
image_behind = built {B = List (List ℕ) × ((List Named × List Named) × List Body)}
    (λ (i : Image). (i.code.vars, ((i.bases, i.vars), i.code.bodies)))
    (λ x. Some (record { code = record { vars = x.0; bodies = x.1.1 }; bases = x.1.0.0; vars = x.1.0.1 }))
    (followed (listed name) (λ vars. pair section (checked some_bodies (listed (body (length vars))))))

-- these behind the 8 bytes `SETLIMG1`
abbrev pub image : Codec Image
image = marked (codes "SETLIMG1") image_behind
