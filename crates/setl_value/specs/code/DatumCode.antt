-- The code by which ghost state tells data apart.
use Rattle.std.specs.Prelude.{◌≡◌, ℕ, ℤ, Bool, true, false, List, [], ◌∷◌, refl}
use Rattle.std.specs.Coded.{Coded, code_by}
use Rattle.std.proofs.Common.{ap}
use denote.Struct.Codes.{itself}
use base.Stored.{Gv, gnil, gnum, gcons}
use lib.IntN.{pos, negsuc}
use Rattle.setl_value.specs.Datum.{Datum, bool, int, text, atom, tuple, set, Parts, no_part, om_then, part_then, Elements, no_element, element_then}

abbrev pub bytes_gv : List ℕ → Gv
bytes_gv [] = gnil
bytes_gv (b ∷ bs) = gcons (gnum b) (bytes_gv bs)

abbrev pub bytes_back : Gv → List ℕ
bytes_back gnil = []
bytes_back (gnum n) = []
bytes_back (gcons gnil bs) = []
bytes_back (gcons (gnum b) bs) = b ∷ bytes_back bs
bytes_back (gcons (gcons x y) bs) = []

pub bytes_same : (bs : List ℕ) → bytes_back (bytes_gv bs) ≡ bs
bytes_same [] = refl
bytes_same (b ∷ bs) = ap (λ l. b ∷ l) (bytes_same bs)

abbrev pub bool_gv : Bool → Gv
bool_gv false = gnum 0
bool_gv true = gnil

abbrev pub bool_back : Gv → Bool
bool_back gnil = true
bool_back (gnum n) = false
bool_back (gcons a b) = false

pub bool_same : (b : Bool) → bool_back (bool_gv b) ≡ b
bool_same false = refl
bool_same true = refl

abbrev pub int_gv : ℤ → Gv
int_gv (pos n) = gnum n
int_gv (negsuc n) = gcons gnil (gnum n)

abbrev pub num_back : Gv → ℕ
num_back gnil = 0
num_back (gnum n) = n
num_back (gcons a b) = 0

abbrev pub int_back : Gv → ℤ
int_back gnil = pos 0
int_back (gnum n) = pos n
int_back (gcons a b) = negsuc (num_back b)

pub int_same : (z : ℤ) → int_back (int_gv z) ≡ z
int_same (pos n) = refl
int_same (negsuc n) = refl

abbrev mutual
  pub gv_of : Datum → Gv
  gv_of (bool b) = gcons (gnum 0) (bool_gv b)
  gv_of (int z) = gcons (gcons gnil gnil) (int_gv z)
  gv_of (text t) = gcons (gcons (gnum 0) gnil) (bytes_gv t)
  gv_of (atom n) = gnum n
  gv_of (tuple ps) = gcons gnil (parts_gv ps)
  gv_of (set ms) = gcons (gcons (gcons gnil gnil) gnil) (elements_gv ms)

  pub parts_gv : Parts → Gv
  parts_gv no_part = gnil
  parts_gv (om_then ps) = gcons gnil (parts_gv ps)
  parts_gv (part_then d ps) = gcons (gcons gnil (gv_of d)) (parts_gv ps)

  pub elements_gv : Elements → Gv
  elements_gv no_element = gnil
  elements_gv (element_then d ms) = gcons (gv_of d) (elements_gv ms)

abbrev mutual
  pub back : Gv → Datum
  back gnil = atom 0
  back (gnum n) = atom n
  back (gcons gnil x) = tuple (parts_back x)
  back (gcons (gnum n) x) = bool (bool_back x)
  back (gcons (gcons gnil t) x) = int (int_back x)
  back (gcons (gcons (gnum n) t) x) = text (bytes_back x)
  back (gcons (gcons (gcons s u) t) x) = set (elements_back x)

  pub parts_back : Gv → Parts
  parts_back gnil = no_part
  parts_back (gnum n) = no_part
  parts_back (gcons gnil x) = om_then (parts_back x)
  parts_back (gcons (gnum n) x) = om_then (parts_back x)
  parts_back (gcons (gcons t d) x) = part_then (back d) (parts_back x)

  pub elements_back : Gv → Elements
  elements_back gnil = no_element
  elements_back (gnum n) = no_element
  elements_back (gcons d x) = element_then (back d) (elements_back x)

mutual
  pub same : (d : Datum) → back (gv_of d) ≡ d
  same (bool b) = ap bool (bool_same b)
  same (int z) = ap int (int_same z)
  same (text t) = ap text (bytes_same t)
  same (atom n) = refl
  same (tuple ps) = ap tuple (parts_same ps)
  same (set ms) = ap set (elements_same ms)

  pub parts_same : (ps : Parts) → parts_back (parts_gv ps) ≡ ps
  parts_same no_part = refl
  parts_same (om_then ps) = ap om_then (parts_same ps)
  parts_same (part_then d ps) = λ i. part_then (same d i) (parts_same ps i)

  pub elements_same : (ms : Elements) → elements_back (elements_gv ms) ≡ ms
  elements_same no_element = refl
  elements_same (element_then d ms) = λ i. element_then (same d i) (elements_same ms i)

abbrev pub coded_datum : Coded Datum
coded_datum = code_by Gv itself gv_of back same
