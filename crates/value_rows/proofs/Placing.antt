-- Operations that set the variable of their result, and those that no operands ever come to.
use Rattle.std.proofs.Common.{◌≡◌, ◌≤◌, ℕ, List, [], ◌∷◌, ◌++◌, length, refl, sym, ap, ◌∙◌, subst, arith}
use Rattle.std.proofs.lemmas.List.{append-nil}
use Rattle.block_laws.specs.Operations.{Acts}
use Rattle.csub_tree.specs.State.{Core}
use Rattle.csub_tree.specs.Statement.{operand}
use Rattle.csub_tree.specs.declared.tree.COperand.{COperand}
use Rattle.flow_graph.specs.declared.graph.Graph.{Graph}
use Rattle.flow_graph.specs.declared.graph.Op.{Op}
use Rattle.flow_runs.specs.Good.{IsGood}
use Rattle.ll_code.specs.State.{At}
use Rattle.ll_code.specs.declared.program.LlOp.{LlOp}
use Rattle.ll_code.specs.declared.program.LlOp.TheVariants as op
use Rattle.ll_code.specs.declared.program.LlType.{LlType}
use Rattle.ll_code.specs.declared.program.LlType.TheVariants as type
use Rattle.lower_laws.proofs.Single.{sets}
use Rattle.object_laws.specs.Ghost.{Ghost}
use Rattle.object_laws.specs.Represents.{Represents}
use Rattle.object_laws.specs.Values.{Given, Holds}
use Rattle.object_laws.proofs.Passing.{none_passed, sets_last}
use Rattle.object_laws.proofs.Valued.{held_set}
use Rattle.rpy_meaning.specs.Operations.{op as meant_op}
use Rattle.rpy_meaning.specs.World.{World as MeantWorld, Gives}
use Rattle.rpy_tree.specs.Value.{Value as Meant}
use Rattle.rtyper_data.specs.Converting.{default_operand, give, give_to, value_as}
use Rattle.rtyper_data.specs.Seen.{Around, Place, Writing, type_at, with_op, writing}
use Rattle.rtyper_program.specs.Blocks.{lowered, op_of}
use Rattle.rtyper_program.specs.Graphs.{variables}
use Rattle.rtyper_program.specs.Seen.{place_of}
use Rattle.run_laws.specs.Points.{is_keyed}
use Rattle.rtyped_runs.specs.Laws.{args_of, before}
use Rattle.rtyped_runs.specs.Parts.{OpIsWritten}
use Rattle.rtyped_runs.proofs.Acting.{gives_so}
use Rattle.typed_rows.specs.Programs.{Typed, IsTyped, layout, setting, world}
use Rattle.typed_rows.specs.Rows.{IsOp, lowered_in}
use Rattle.typed_rows.proofs.Going.{inside}

-- what is held by operands, wherever the operation is as runs ask
abbrev pub Whenever : (t : Typed) (n : ℕ) (graph : Graph) (o : Op) → ((g : Ghost) (core : Core) (w : MeantWorld) (vs : List Meant) → Type 0) → Type 0
Whenever t n graph o So = (g : Ghost) (core : Core) (w : MeantWorld) (vs : List Meant) → Represents (layout t) t.seen g w.heap w.left core.blocks core.statics → Given t.seen (world t).around g core (args_of (lowered_in t n graph) o) vs
    → IsGood t.seen.program (setting t).made (is_keyed (setting t) n o) o.op w vs → So g core w vs

module _ (t : Typed) (typed : IsTyped t) (n : ℕ) (graph : Graph) (o : Op) (is : IsOp t n o) (w : Writing) (room : length (variables t.known (world t) n) ≤ length w.body.types) where
  abbrev place : Place
  place = place_of (lowered_in t n graph) o.result

  -- what is set is what the operation gives
  pub set_is_written : (c : COperand) → lowered (world t) o.op place (args_of (lowered_in t n graph) o) (before o w) ≡ writing (before o w).found (with_op (op.Set o.result c) w.body)
      → Whenever t n graph o (λ g core w vs. (v : Meant) × (meant_op t.seen.program o.covered o.op vs w ≡ Gives v w) × Holds (layout t) t.seen g place.element (operand core.vars c) v) → OpIsWritten (setting t) (lowered_in t n graph) o w
  unfolding op_of
  set_is_written c made gives = record {
    ops = op.Set o.result c ∷ [];
    new = [];
    written = ap (λ (made : Writing). made.body.ops) made;
    types = ap (λ (made : Writing). made.body.types) made ∙ sym (append-nil w.body.types);
    is = λ rest e frames core g world vs memory left enough given good.
        let m = gives g core world vs memory given good in
        let i = (inside t n graph o is w room).result in
        subst (Acts (setting t) n o (length w.body.types) (At (op.Set o.result c ∷ rest) e frames core) rest e frames core g world) (sym m.1)
        (gives_so (setting t) n o (length w.body.types) (At (op.Set o.result c ∷ rest) e frames core) rest e frames core g world memory left {blocks = 0} {most = 0} m.0 world
        (sets_last 0 (length w.body.types) core (operand core.vars c) m.0 memory left none_passed (omega (arith, i, enough)) (sets (operand core.vars c) refl (held_set memory m.2)) m.2));
  }

  -- no operands ever come to it
  pub never_written : (ops : List LlOp) (new : List LlType) → (lowered (world t) o.op place (args_of (lowered_in t n graph) o) (before o w)).body.ops ≡ w.body.ops ++ ops → (lowered (world t) o.op place (args_of (lowered_in t n graph) o) (before o w)).body.types ≡ w.body.types ++ new
      → Whenever t n graph o (λ g core w vs. ⊥) → OpIsWritten (setting t) (lowered_in t n graph) o w
  unfolding op_of
  never_written ops new written types never = record { ops = ops; new = new; written = written; types = types; is = λ rest e frames core g world vs memory left enough given good. absurd (never g core world vs memory given good) }

-- ---- what is written where a truth value, or `None` alone, goes anywhere

pub record Added (made w : Writing) : Type 0 where
  pub ops : List LlOp
  pub written : made.body.ops ≡ w.body.ops ++ ops
  pub types : made.body.types ≡ w.body.types ++ []

flag_goes : (around : Around) (place : Place) (x : COperand) (w : Writing) (u : LlType) → Added (give_to around place x type.Bool u w) w
unfolding value_as
flag_goes around at x w type.Void = record { ops = []; written = sym (append-nil w.body.ops); types = sym (append-nil w.body.types) }
flag_goes around at x w type.Bool = record { ops = op.Set at.variable x ∷ []; written = refl; types = sym (append-nil w.body.types) }
flag_goes around at x w type.Signed = record { ops = op.Set at.variable (default_operand type.Signed) ∷ []; written = refl; types = sym (append-nil w.body.types) }
flag_goes around at x w type.Char = record { ops = op.Set at.variable (default_operand type.Char) ∷ []; written = refl; types = sym (append-nil w.body.types) }
flag_goes around at x w type.Fn = record { ops = op.Set at.variable (default_operand type.Fn) ∷ []; written = refl; types = sym (append-nil w.body.types) }
flag_goes around at x w (type.Ptr n) = record { ops = op.Set at.variable (default_operand (type.Ptr n)) ∷ []; written = refl; types = sym (append-nil w.body.types) }

pub flag_given : (around : Around) (place : Place) (x : COperand) (w : Writing) → Added (give around place x type.Bool w) w
unfolding give
flag_given around place x w = flag_goes around place x w (type_at around place)
