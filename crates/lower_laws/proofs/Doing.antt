-- One operation sets the place, and what is written for it.
use Rattle.std.proofs.Common.{◌≡◌, ◌<◌, ℕ, ◌+◌, ◌==◌, Bool, true, List, [], ◌∷◌, length, Option, ℤ, refl, sym, ap, ◌∙◌, subst, arith}
use Rattle.std.specs.Prelude.{slice_set, if◌then◌else◌}
use Rattle.std.proofs.lemmas.List.{append-nil, get_or-set_same, get_or-set_other, length-set}
use Rattle.std.proofs.lemmas.Bool.Decides.{nat_tests}
use Rattle.csub_tree.specs.declared.tree.COperand.TheVariants.{Var}
use Rattle.rpy_meaning.specs.World.{World}
use Rattle.ll_code.specs.State.{Frame, State, At}
use Rattle.ll_code.specs.declared.program.LlType.{LlType}
use Rattle.ll_code.specs.declared.program.LlType.TheVariants as type
use Rattle.ll_code.specs.declared.program.LlOp.{LlOp}
use Rattle.ll_code.specs.declared.program.LlExit.{LlExit}
use Rattle.ll_code.specs.declared.program.LlProgram.{LlProgram}
use Rattle.ll_leads.specs.Path.{Leads}
use Rattle.rtyper_data.specs.Converting.{landed, give_op, give}
use Rattle.rtyper_data.specs.Finding.{same_type}
use Rattle.rtyper_data.specs.Seen.{Around, Operand, Place, type_at, with_op, fresh, Writing, writing}
use Rattle.csub_tree.specs.State.{Value, Word, Flag, Block, Core}
use Rattle.rpy_base.specs.Word.{Fits}
use Rattle.rpy_tree.specs.Value.{Value as Meant, Word as MeantWord, Flag as MeantFlag}
use Rattle.rpy_meaning.specs.declared.row.Covers.{Covers}
use Rattle.rpy_meaning.specs.declared.row.RowOp.{RowOp}
use Rattle.rpy_meaning.specs.Operations.{op as meant_op}
use Rattle.rpy_meaning.specs.Tree.{Program}
use Rattle.ll_texts.specs.Stands.{Stands, word, flag}
use Rattle.rtyper_op.specs.Lowering.{lower_op}
use Rattle.lower_laws.specs.Follows.{AllStand, Did, Follows, IsFollowed}

-- the variable was set, and nothing else
abbrev pub after : Core → ℕ → Value → Core
after core n value = record core { at = core.at + 1; vars = slice_set core.vars n value }

pub did : {p : LlProgram} {args : List (List ℕ)} {s : State} {rest : List LlOp} {e : LlExit} {frames : List Frame} {core : Core} {t : LlType} {below : ℕ} {w : World} {v : Meant} (into : ℕ) (value : Value)
    → into < length core.vars → Leads p args 0 s [] (At rest e frames (after core into value)) → Stands core.blocks core.statics t value v → Did p args s rest e frames core t into below w v w
did {core = core} {t = t} {v = v} into value r l st = record {
  end = after core into value;
  leads = l;
  memory = refl;
  stands = subst (λ x. Stands core.blocks core.statics t x v) (sym (get_or-set_same core.vars into value _ r)) st;
  others = λ n below other. get_or-set_other core.vars into n value _ other;
  room = length-set core.vars into value;
  function = refl;
  block = refl;
  same = refl;
}

-- ---- where a result goes

pub same_type_is : (t : LlType) → same_type t t ≡ true
same_type_is type.Signed = refl
same_type_is type.Char = refl
same_type_is type.Bool = refl
same_type_is type.Void = refl
same_type_is type.Fn = refl
same_type_is (type.Ptr n) = grind (arith, nat_tests)

pub place_is : (n : ℕ) → (n == n) ≡ true
place_is n = grind (arith, nat_tests)

-- an operation whose result has the type of the place sets its variable
pub sets_place : (around : Around) (place : Place) (gives : LlType) (o : ℕ → LlOp) (w : Writing) → type_at around place ≡ gives → give_op around place gives o w ≡ writing w.found (with_op (o place.variable) w.body)
sets_place around place gives o w h =
    ap (λ t. landed around place gives o w.found (if same_type t gives then (place.variable, w.body) else fresh gives w.body)) h
    ∙ ap (λ b. landed around place gives o w.found (if b then (place.variable, w.body) else fresh gives w.body)) (same_type_is gives)
    ∙ ap (λ b. if b then writing w.found (with_op (o place.variable) w.body) else give around place (Var place.variable) gives (writing w.found (with_op (o place.variable) w.body))) (place_is place.variable)

-- ---- one operation

pub followed : {around : Around} {o : RowOp} {place : Place} {args : List Operand} {w : Writing} (one : LlOp) → lower_op around o place args w ≡ writing w.found (with_op one w.body)
    → ((program : Program) (covers : Covers) (p : LlProgram) (arguments : List (List ℕ)) (rest : List LlOp) (e : LlExit) (frames : List Frame) (core : Core) (world : World) (vs : List Meant) → place.variable < length core.vars → AllStand around core args vs
    → Follows p arguments (At (one ∷ rest) e frames core) rest e frames core (type_at around place) place.variable (length w.body.types) world (meant_op program covers o vs world))
    → IsFollowed around o place args w
followed {w = w} one h f = record {
  ops = one ∷ [];
  new = [];
  asked = ap (λ (r : Writing). r.found) h;
  written = ap (λ (r : Writing). r.body.ops) h;
  types = ap (λ (r : Writing). r.body.types) h ∙ sym (append-nil w.body.types);
  follows = λ program covers p arguments rest e frames core world vs room inside st. f program covers p arguments rest e frames core world vs (omega (arith, room, inside)) st;
}

-- ---- words

pub record WordIs (x : Value) (v : Meant) : Type 0 where
  pub number : ℤ
  pub low : x ≡ Word number
  pub high : v ≡ MeantWord number
  pub fits : Fits number

of_word : {blocks : List (Option Block)} {statics : List Block} (x : Value) (v : Meant) → Stands blocks statics type.Signed x v → WordIs x v
of_word x v (word z f) = record { number = z; low = refl; high = refl; fits = f }

pub word_is : {blocks : List (Option Block)} {statics : List Block} {t : LlType} {x : Value} {v : Meant} → t ≡ type.Signed → Stands blocks statics t x v → WordIs x v
word_is {blocks = blocks} {statics = statics} {x = x} {v = v} h st = of_word x v (subst (λ t. Stands blocks statics t x v) h st)

pub record FlagIs (x : Value) (v : Meant) : Type 0 where
  pub truth : Bool
  pub low : x ≡ Flag truth
  pub high : v ≡ MeantFlag truth

of_flag : {blocks : List (Option Block)} {statics : List Block} (x : Value) (v : Meant) → Stands blocks statics type.Bool x v → FlagIs x v
of_flag x v (flag b) = record { truth = b; low = refl; high = refl }

pub flag_is : {blocks : List (Option Block)} {statics : List Block} {t : LlType} {x : Value} {v : Meant} → t ≡ type.Bool → Stands blocks statics t x v → FlagIs x v
flag_is {blocks = blocks} {statics = statics} {x = x} {v = v} h st = of_flag x v (subst (λ t. Stands blocks statics t x v) h st)
