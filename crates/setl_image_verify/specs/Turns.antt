-- Heights that fall at each step that takes no turn, and the ways of such steps.
use Rattle.std.specs.Prelude.{ℕ, suc, List}
use Rattle.setl_live_reads.specs.declared.node.Way.{Way}
use Rattle.setl_live_reads.specs.declared.node.Way.TheVariants.{On, To, Either, Nowhere}
use Rattle.setl_code.specs.declared.code.Instr.{Instr}
use Rattle.setl_code.specs.declared.code.Instr.TheVariants as i
use Rattle.setl_code.specs.declared.code.Step.{Step}
use Rattle.setl_code.specs.Code as plain
use Rattle.setl_code.specs.Piece.{Is}
use Rattle.setl_code.specs.Shapes.{free_successors}
use Rattle.setl_code.specs.Sound.{AllLower, height_at}

-- as sound code has them, `SoundBody`
abbrev pub HeightsFall : List plain.Step → List ℕ → Type 0
HeightsFall steps heights = (at line : ℕ) (i : plain.Instr) → Is steps at line i → AllLower heights (height_at heights at) (free_successors i (suc at))

-- where an instruction leads without a turn
abbrev pub free_way : Instr → Way
free_way i.Round = Nowhere
free_way i.NewAtom = Nowhere
free_way (i.Call n) = Nowhere
free_way i.Return = Nowhere
free_way i.Back = Nowhere
free_way i.Stop = Nowhere
free_way (i.Next to) = To to
free_way (i.Jump to) = To to
free_way (i.Decide k to) = Either to
free_way (i.Unless to) = Either to
free_way what = On

abbrev pub free_way_of : Step → Way
free_way_of s = free_way s.what
