-- A fact about every kind, shown by computing it at each.
use Rattle.std.proofs.Common.{rules, ◌≡◌, Bool, true, false, if◌then◌else◌, List, [], ◌∷◌, refl, ap, ◌∙◌, eq-eqb}
use denote.Enum.Bare.{same_true}
use Rattle.setl_tree.specs.declared.kind.Kind.{Kind}
use Rattle.setl_tree.specs.declared.kind.Kind.TheVariants as k
use Rattle.setl_tree.specs.contracts.kind.Kind.{the_type}
use Rattle.setl_parse_reading.specs.code.Reading.{same_kind}

pub same_kind_is : (a b : Kind) → same_kind a b ≡ true → a ≡ b
unfolding same_kind
same_kind_is a b e = same_true the_type (search rules) a b e

pub same_kind_self : (a : Kind) → same_kind a a ≡ true
unfolding same_kind
same_kind_self a = eq-eqb _ _ refl

unfoldable pub kinds : List Kind
kinds =
    k.SourceEnd ∷ k.Name ∷ k.Number ∷ k.StringLiteral ∷ k.Abs ∷ k.And ∷ k.Arb ∷ k.Atom ∷ k.Base ∷ k.Boolean ∷ k.Continue ∷ k.Div ∷ k.Domain ∷
    k.Elmt ∷ k.Else ∷ k.Elseif ∷ k.End ∷ k.Eof ∷ k.Even ∷ k.Exists ∷ k.Fail ∷ k.False ∷ k.For ∷ k.Forall ∷ k.From ∷ k.Fromb ∷ k.Frome ∷
    k.General ∷ k.If ∷ k.Impl ∷ k.In ∷ k.Incs ∷ k.Int ∷ k.Integer ∷ k.IsAtom ∷ k.IsBoolean ∷ k.IsInteger ∷ k.IsMap ∷ k.IsSet ∷ k.IsString ∷
    k.IsTuple ∷ k.Less ∷ k.Lessf ∷ k.Local ∷ k.Max ∷ k.Min ∷ k.Mmap ∷ k.Mod ∷ k.Newat ∷ k.Not ∷ k.Notexists ∷ k.Notin ∷ k.Npow ∷ k.Odd ∷
    k.Ok ∷ k.Om ∷ k.Or ∷ k.Pass ∷ k.Pow ∷ k.Print ∷ k.Proc ∷ k.Procedure ∷ k.Program ∷ k.Quit ∷ k.Range ∷ k.Rd ∷ k.Read ∷ k.Remote ∷ k.Repr ∷
    k.Return ∷ k.Rw ∷ k.Set ∷ k.Smap ∷ k.Sparse ∷ k.Stop ∷ k.Str ∷ k.String ∷ k.Subset ∷ k.Succeed ∷ k.Then ∷ k.True ∷ k.Tuple ∷ k.Var ∷ k.While ∷
    k.With ∷ k.Wr ∷ k.Assign ∷ k.Dots ∷ k.NotEqual ∷ k.AtMost ∷ k.AtLeast ∷ k.Power ∷ k.Semicolon ∷ k.Colon ∷ k.Comma ∷ k.LeftParen ∷
    k.RightParen ∷ k.LeftBrace ∷ k.RightBrace ∷ k.LeftBracket ∷ k.RightBracket ∷ k.Bar ∷ k.Equal ∷ k.LessThan ∷ k.GreaterThan ∷ k.Plus ∷
    k.Minus ∷ k.Star ∷ k.Slash ∷ k.Hash ∷ []

abbrev pub all_of : (Kind → Bool) → List Kind → Bool
all_of p [] = true
all_of p (x ∷ xs) = if p x then all_of p xs else false

abbrev pub is_among : Kind → List Kind → Bool
is_among kind [] = false
is_among kind (x ∷ xs) = if same_kind kind x then true else is_among kind xs

is_kind : (kind : Kind) → is_among kind kinds ≡ true
unfolding kinds same_kind
is_kind k.Name = refl
is_kind _ = refl

if_all : (b rest : Bool) → (if b then rest else false) ≡ true → (b ≡ true) × (rest ≡ true)
if_all true rest h = (refl, h)
if_all false rest h = absurd cc

at_one : (p : Kind → Bool) (kind : Kind) (xs : List Kind) → all_of p xs ≡ true → is_among kind xs ≡ true → p kind ≡ true
at_one p kind [] all among = absurd cc
at_one p kind (x ∷ xs) all among =
    let h = if_all (p x) (all_of p xs) all in
    let here : (b : Bool) → same_kind kind x ≡ b → (if b then true else is_among kind xs) ≡ true → p kind ≡ true = λ b.
    elim b as (λ b. same_kind kind x ≡ b → (if b then true else is_among kind xs) ≡ true → p kind ≡ true) [
      | true ↦ λ same among. ap p (same_kind_is kind x same) ∙ h.0
      | false ↦ λ same among. at_one p kind xs h.1 among
    ] in
    here (same_kind kind x) refl among

-- what holds at each kind holds at every kind
pub every : (p : Kind → Bool) → all_of p kinds ≡ true → (kind : Kind) → p kind ≡ true
every p all kind = at_one p kind kinds all (is_kind kind)
