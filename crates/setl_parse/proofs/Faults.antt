-- The faults that are told.
use Rattle.std.proofs.Common.{◌≡◌, ◌⊎◌, inl, inr, ◌<◌, [], ◌∷◌, length, Ok, Err, refl, sym, ap, subst, ◌∙◌, arith}
use Rattle.setl_tree.specs.declared.tree.Tree.{Tree}
use Rattle.setl_tree.specs.Tokens.{Tokens}
use Rattle.setl_parse_reading.specs.declared.fault.Fault.{Fault}
use Rattle.setl_parse_reading.specs.declared.fault.Fault.TheVariants as left
use Rattle.setl_parse_reading.specs.Claims.{ReadingIsSound, FaultIsUnique, FaultIsExact, ProgramsHaveNoFault, LeftoverIsExact}
use Rattle.setl_parse_reading.specs.Fronts.{FaultOf}
use Rattle.setl_parse_reading.specs.code.Reading.{Outcome}
use Rattle.setl_parse_reading.specs.code.ReadPrograms as reading
use Rattle.setl_token.specs.Text.{Lexed}
use Rattle.setl_tree.specs.Programs as grammar
use Rattle.setl_parse_cursor.specs.Plain.{plain_tokens}
use Rattle.setl_parse.specs.Places.{fault_of, IsFaultOf}
use Rattle.setl_parse.specs.Places as places
use Rattle.setl_parse.specs.declared.fault.ParseFault.{ParseFault}

pub fault_is_unique : FaultIsUnique → places.FaultIsUnique
fault_is_unique law l one two a b = a.2 ∙ ap (fault_of l) (law 200 (plain_tokens l) a.0 b.0 a.1 b.1) ∙ sym b.2

pub programs_have_no_fault : ProgramsHaveNoFault → places.ProgramsHaveNoFault
programs_have_no_fault law l tree fault derived h = law 200 (plain_tokens l) tree h.0 derived h.1

-- tokens are left
pub leftover : LeftoverIsExact → (toks : Tokens) (tree : Tree) (rest : Tokens) (e : Fault) → e ≡ left.Syntax (length rest) → reading.program 200 toks ≡ Ok (tree, rest) → 0 < length rest → FaultOf 200 toks e
leftover law toks tree [] e is read some = absurd (omega (arith, some))
leftover law toks tree (t ∷ rest) e is read some = subst (λ e. FaultOf 200 toks e) (sym is) (law 200 toks tree t rest read)

module _ (l : Lexed) where
  abbrev Found : Type 0
  Found = ((tree : Tree) × grammar.program 200 (plain_tokens l) tree) ⊎ ((fault : ParseFault) × IsFaultOf l fault)

  by_rest : ReadingIsSound → LeftoverIsExact → (tree : Tree) (rest : Tokens) → reading.program 200 (plain_tokens l) ≡ Ok (tree, rest) → Found
  by_rest sound law tree [] h = inl (tree, sound 200 (plain_tokens l) tree h)
  by_rest sound law tree (t ∷ rest) h =
      let e : Fault = left.Syntax (length (t ∷ rest)) in
      inr (fault_of l e, (e, law 200 (plain_tokens l) tree t rest h, refl))

  by_outcome : ReadingIsSound → FaultIsExact → LeftoverIsExact → (o : Outcome Tree) → reading.program 200 (plain_tokens l) ≡ o → Found
  by_outcome sound exact law (Ok x) h = by_rest sound law x.0 x.1 h
  by_outcome sound exact law (Err e) h = inr (fault_of l e, (e, exact 200 (plain_tokens l) e h, refl))

-- reading ends with a tree or with the fault
pub others_have_a_fault : ReadingIsSound → FaultIsExact → LeftoverIsExact → places.OthersHaveAFault
others_have_a_fault sound exact law l = by_outcome l sound exact law (reading.program 200 (plain_tokens l)) refl
