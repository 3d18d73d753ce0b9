-- Steps of the functions that read and write images.
use Rattle.std.proofs.Common.{◌≡◌, ℕ, List, [], ◌∷◌, ◌++◌, length, map, Bool, true, Some, None, refl, sym, ap, ◌∙◌, eqb-true}
use Rattle.std.specs.Prelude.{codes, ◌==◌}
use Rattle.std.proofs.lemmas.List.{nil_from_length}
use Rattle.setl_image_codec.specs.Given.{Fails}
use Rattle.setl_image_codec.specs.declared.fault.ImageFault.{ImageFault}
use Rattle.setl_image_codec.specs.declared.fault.ImageFault.TheVariants.{Bad, NoMemory}
use Rattle.setl_modes.specs.declared.mode.ModeTable.{ModeTable}
use Rattle.setl_code.specs.declared.code.Body.{Body}
use Rattle.setl_image_codec.specs.Codec.{Spells, checked, decoded}
use Rattle.setl_image_codec.specs.Numbers.{listed}
use Rattle.setl_image_codec.specs.Texts.{name}
use Rattle.setl_image_format.specs.Claims.{ImagesAreExact}
use Rattle.setl_image_format.specs.ImageCodec.{Image, body, image, image_behind, section, some_bodies}
use Rattle.setl_image.specs.Marks.{strip}
use Rattle.setl_image.specs.Views.{image_of, table_of}
use Rattle.setl_image.proofs.Marking.{read_behind, marked_reads, marked_writes}

-- items that stand for themselves
pub same_items : {A : Type 0} (xs : List A) → map (λ x. x) xs ≡ xs
same_items [] = refl
same_items (x ∷ xs) = ap (λ t. x ∷ t) (same_items xs)

-- ---- the mark

pub image_reads : (bytes rest : List ℕ) → strip (codes "SETLIMG1") bytes ≡ Some rest → image.read bytes ≡ image_behind.read rest
image_reads bytes rest is = marked_reads (codes "SETLIMG1") bytes image_behind ∙ ap (read_behind image_behind) is

pub image_lacks : (bytes : List ℕ) → strip (codes "SETLIMG1") bytes ≡ None → image.read bytes ≡ None
image_lacks bytes is = marked_reads (codes "SETLIMG1") bytes image_behind ∙ ap (read_behind image_behind) is

pub image_writes : (i : Image) → image.write i ≡ codes "SETLIMG1" ++ image_behind.write i
image_writes i = marked_writes (codes "SETLIMG1") image_behind i

pub image_is_read : (vars : List (List ℕ)) (modes : ModeTable) (bodies : List Body) (bytes b c d rest : List ℕ) → strip (codes "SETLIMG1") bytes ≡ Some b → (listed name).read b ≡ Some (vars, c) → section.read c ≡ Some (table_of modes, d) → (checked some_bodies (listed (body (length vars)))).read d ≡ Some (bodies, rest) → image.read bytes ≡ Some (image_of (record { code = record { vars = vars; bodies = bodies }; modes = modes }), rest)
image_is_read vars modes bodies bytes b c d rest mark first second third = image_reads bytes b mark ∙ rw first (rw second (rw third refl))

pub image_fails : (vars : List (List ℕ)) (modes : ModeTable) (bytes b c d : List ℕ) (e : ImageFault) → strip (codes "SETLIMG1") bytes ≡ Some b → (listed name).read b ≡ Some (vars, c) → section.read c ≡ Some (table_of modes, d) → Fails e ((checked some_bodies (listed (body (length vars)))).read d) → Fails e (image.read bytes)
image_fails vars modes bytes b c d Bad mark first second third = image_reads bytes b mark ∙ rw first (rw second (rw third refl))
image_fails vars modes bytes b c d NoMemory mark first second third = tt

-- nothing is left
pub ended : (xs : List ℕ) (t : Bool) → t ≡ (length xs == 0) → t ≡ true → xs ≡ []
ended xs t is so = nil_from_length xs (eqb-true (length xs) 0 (sym is ∙ so))

-- ---- all of the bytes

whole_read : (bytes : List ℕ) (i : Image) → image.read bytes ≡ Some (i, []) → decoded image bytes ≡ Some i
whole_read bytes i is = rw is refl

none_read : (bytes : List ℕ) → image.read bytes ≡ None → decoded image bytes ≡ None
none_read bytes is = rw is refl

more_read : (bytes : List ℕ) (i : Image) (b : ℕ) (rest : List ℕ) → image.read bytes ≡ Some (i, b ∷ rest) → decoded image bytes ≡ None
more_read bytes i b rest is = rw is refl

pub found_is_spelled : ImagesAreExact → (bytes : List ℕ) (i : Image) (rest : List ℕ) → image.read bytes ≡ Some (i, rest) → rest ≡ [] → Spells image i bytes
found_is_spelled exact bytes i [] is ended = exact.2.1 bytes i (whole_read bytes i is)
found_is_spelled exact bytes i (b ∷ rest) is ended = exact.2.1 bytes i (whole_read bytes i (is ∙ ap (λ t. Some (i, t)) ended))

pub rest_is_bad : ImagesAreExact → (bytes : List ℕ) (i : Image) (rest : List ℕ) → image.read bytes ≡ Some (i, rest) → (rest ≡ [] → ⊥) → (other : Image) → Spells image other bytes → ⊥
rest_is_bad exact bytes i [] is more other spelled = more refl
rest_is_bad exact bytes i (b ∷ rest) is more other spelled = exact.2.2 bytes (more_read bytes i b rest is) other spelled

pub none_is_bad : ImagesAreExact → (bytes : List ℕ) → image.read bytes ≡ None → (other : Image) → Spells image other bytes → ⊥
none_is_bad exact bytes is other spelled = exact.2.2 bytes (none_read bytes is) other spelled
