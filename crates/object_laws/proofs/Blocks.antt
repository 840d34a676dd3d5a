-- Fields and items of blocks whose structs have no base.
use Rattle.std.proofs.Common.{◌≡◌, ◌<◌, ℕ, ◌==◌, true, false, List, [], ◌∷◌, length, Option, Some, None, Ok, Err, pos, refl, ap, ◌∙◌, arith}
use Rattle.std.specs.Prelude.{cond, nat_lt}
use Rattle.std.proofs.lemmas.Bool.Decides.{nat_tests}
use Rattle.csub_tree.specs.State.{Value, Word, Flag, Null, Ptr, Static, Block, Core, Onward, Stuck}
use Rattle.csub_tree.specs.Layout.{Shape, shape_at, shape_over, begins_with, is_among, place}
use Rattle.csub_tree.specs.Operation.{is_unset, compared}
use Rattle.csub_tree.specs.Statement.{read, operand, block_at, as_struct, reached, on_block, set, item, get_item}
use Rattle.csub_tree.specs.declared.stuck.StuckReason.TheVariants.{Outside, Kind, Unset as IsUnset}
use Rattle.csub_tree.specs.declared.tree.COperand.{COperand}
use Rattle.ll_code.specs.State.{Frame, At}
use Rattle.ll_code.specs.Machine.{shapes_of}
use Rattle.ll_code.specs.declared.program.LlOp.{LlOp}
use Rattle.ll_code.specs.declared.program.LlOp.TheVariants as op
use Rattle.ll_code.specs.declared.program.LlExit.{LlExit}
use Rattle.ll_code.specs.declared.program.LlProgram.{LlProgram}
use Rattle.ll_leads.specs.Path.{Leads}
use Rattle.ll_leads.proofs.Ways.{gets_field, gets_item}
use Rattle.ll_texts.specs.Texts.{found}
use Rattle.ll_texts.proofs.Reading.{found_at}
use Rattle.lower_laws.proofs.Doing.{after}
use Rattle.lower_laws.proofs.Tupled.{place_is_own}

-- ---- what a pointer names

module _ (blocks : List (Option Block)) (statics : List Block) where
  -- it is set, and not NULL
  pub found_set : (x : Value) (block : Block) → found blocks statics x ≡ Some block → is_unset x ≡ false
  found_set (Ptr n) block h = refl
  found_set (Static g) block h = refl
  found_set _ block h = absurd (cc)

  pub found_there : (x : Value) (block : Block) → found blocks statics x ≡ Some block → compared x Null ≡ Ok (Flag false)
  found_there (Ptr n) block h = refl
  found_there (Static g) block h = refl
  found_there _ block h = absurd (cc)

begins_itself : (shapes : List Shape) (n k : ℕ) → shape_at shapes n ≡ shape_over n k None → begins_with shapes n n ≡ true
begins_itself shapes n k h = ap (λ (s : Shape). is_among n s.bases) h ∙ ap (λ b. cond b true false) (let e : (n == n) ≡ true = grind (arith, nat_tests) in e)

pub reach_own : (p : LlProgram) (core : Core) (x : Value) (n k : ℕ) (block : Block) → shape_at (shapes_of p.structs) n ≡ shape_over n k None → found core.blocks core.statics x ≡ Some block → block.kind ≡ n → reached core (shapes_of p.structs) n x ≡ Ok block
reach_own p core x n k block shape is kind =
    ap (λ b. cond b (Err IsUnset) (as_struct (shapes_of p.structs) n (block_at core x))) (found_set core.blocks core.statics x block is)
    ∙ ap (as_struct (shapes_of p.structs) n) (found_at core x ∙ is)
    ∙ ap (λ b. cond b (Ok block) (Err Kind)) (ap (λ m. begins_with (shapes_of p.structs) m n) kind ∙ begins_itself (shapes_of p.structs) n k shape)

-- ---- reading

module _ {p : LlProgram} {args : List (List ℕ)} {ops : List LlOp} {e : LlExit} {frames : List Frame} {core : Core} {a n b : ℕ} (k : ℕ) (block : Block) (value : Value)
    (shape : shape_at (shapes_of p.structs) n ≡ shape_over n k None) (is : found core.blocks core.statics (read core.vars b) ≡ Some block) (kind : block.kind ≡ n) (value_set : is_unset value ≡ false) where
  pub reads_field : (i : ℕ) → read block.fields i ≡ value → Leads p args 0 (At (op.GetField a n b i ∷ ops) e frames core) [] (At ops e frames (after core a value))
  reads_field i there = gets_field value
      (ap (on_block (λ block. set core a (read block.fields (place (shape_at (shapes_of p.structs) n) i)))) (reach_own p core (read core.vars b) n k block shape is kind)
      ∙ ap (λ j. set core a (read block.fields j)) (place_is_own (shape_at (shapes_of p.structs) n) n k i shape)
      ∙ ap (set core a) there
      ∙ ap (λ c. cond c (Stuck IsUnset) (Onward (after core a value))) value_set)

  pub reads_item : {i : COperand} (j : ℕ) → operand core.vars i ≡ Word (pos j) → j < length block.items → read block.items j ≡ value → Leads p args 0 (At (op.GetItem a n b i ∷ ops) e frames core) [] (At ops e frames (after core a value))
  reads_item j at inside there =
      let inside_so : nat_lt j (length block.items) ≡ true = grind (arith, nat_tests, inside) in
      gets_item value
      (ap (λ v. get_item core (shapes_of p.structs) a n (read core.vars b) v) at
      ∙ ap (on_block (λ block. item core a block.items (pos j))) (reach_own p core (read core.vars b) n k block shape is kind)
      ∙ ap (λ c. cond c (set core a (read block.items j)) (Stuck Outside)) inside_so
      ∙ ap (set core a) there
      ∙ ap (λ c. cond c (Stuck IsUnset) (Onward (after core a value))) value_set)
