-- Laws of the first forms are laws of the last one, where operands and place are plain.
use Rattle.std.proofs.Common.{◌≡◌, ℕ, Bool, true, false, List, [], ◌∷◌, ◌++◌, length, Option, refl, sym, subst}
use Rattle.std.specs.Prelude.{◌&&◌}
use Rattle.csub_tree.specs.State.{Value, Block, Core}
use Rattle.rpy_tree.specs.Value.{Value as Meant}
use Rattle.rpy_meaning.specs.Classes.{no_covers}
use Rattle.rpy_meaning.specs.Operations.{op as meant_op}
use Rattle.rpy_meaning.specs.World.{World, Answer, Gives, Throws, Fails, Lacks, Enters, Bad}
use Rattle.ll_code.specs.State.{Frame, State, At}
use Rattle.ll_code.specs.declared.program.LlOp.{LlOp}
use Rattle.ll_code.specs.declared.program.LlExit.{LlExit}
use Rattle.ll_code.specs.declared.program.LlProgram.{LlProgram}
use Rattle.ll_texts.specs.Stands.{Stands}
use Rattle.rtyper_layout.specs.Kinds.{kind_seen}
use Rattle.rtyper_data.specs.Seen.{Around, Operand, Place, type_at}
use Rattle.lower_laws.specs.Bridged.{are_plain, FollowedIsDone, HelpedIsDone}
use Rattle.lower_laws.specs.Done.{Follows}
use Rattle.lower_laws.specs.Follows.{AllStand, Follows as FirstFollows}
use Rattle.lower_laws.specs.Values.{is_plain, Holds, Plain, Given}
use Rattle.lower_laws.proofs.Answered.{came}
use Rattle.lower_laws.proofs.Chained.{here, chained}
use Rattle.lower_laws.proofs.Valued.{plain_stands}

first_of : (b c : Bool) → (b && c) ≡ true → b ≡ true
first_of true c h = refl
first_of false c h = absurd (cc)

second_of : (b c : Bool) → (b && c) ≡ true → c ≡ true
second_of true c h = h
second_of false c h = absurd (cc)

all_stand : (around : Around) (core : Core) (args : List Operand) (vs : List Meant) → are_plain args ≡ true → Given around core args vs → AllStand around core args vs
all_stand around core [] [] h given = tt
all_stand around core [] (v ∷ vs) h given = absurd given
all_stand around core (a ∷ args) [] h given = absurd given
all_stand around core (a ∷ args) (v ∷ vs) h given = (plain_stands (first_of (is_plain (kind_seen a.element)) (are_plain args) h) given.0, all_stand around core args vs (second_of (is_plain (kind_seen a.element)) (are_plain args) h) given.1)

plain_holds : (around : Around) (place : Place) → is_plain (kind_seen place.element) ≡ true → (blocks : List (Option Block)) (statics : List Block) (x : Value) (v : Meant) → Stands blocks statics (type_at around place) x v → Holds around.layout blocks statics place.element x v
plain_holds around place h blocks statics x v st = Plain h st

module _ (around : Around) (place : Place) (p : LlProgram) (args : List (List ℕ)) (s : State) (rest : List LlOp) (e : LlExit) (frames : List Frame) (core : Core) (raised : ℕ → Value) (most below : ℕ) (w : World) (left : w.left ≡ core.steps) (plain : is_plain (kind_seen place.element) ≡ true) where
  first_follows : (answer : Answer) → FirstFollows p args s rest e frames core (type_at around place) place.variable below w answer → Follows around place p args s rest e frames core raised most below w answer
  first_follows (Gives v w') d =
      subst (λ w2. Follows around place p args s rest e frames core raised most below w (Gives v w2)) (sym d.same)
      (came most left (subst (λ w2. FirstFollows p args s rest e frames core (type_at around place) place.variable below w (Gives v w2)) d.same d) (λ x st. Plain plain st))
  first_follows (Throws exception w') d = absurd d
  first_follows (Fails name) d = absurd d
  first_follows Lacks d = absurd d
  first_follows (Enters function values instead w') d = absurd d
  first_follows Bad d = tt

pub followed_is_done : FollowedIsDone
followed_is_done around o place args w f plain all covers = record {
  ops = f.ops;
  new = f.new;
  asked = f.asked;
  written = f.written;
  types = f.types;
  follows = λ program p numbers raised arguments rest e frames core world vs structs has left room inside below given good.
      first_follows around place p arguments (At (f.ops ++ rest) e frames core) rest e frames core raised (length args) (length w.body.types) world left plain (meant_op program covers o vs world)
      (f.follows program covers p arguments rest e frames core world vs room inside (all_stand around core args vs all given));
}

pub helped_is_done : HelpedIsDone
helped_is_done around o h place args w f plain all = record {
  ops = f.ops;
  new = f.new;
  asked = f.asked;
  written = f.written;
  types = f.types;
  follows = λ program p numbers raised arguments rest e frames core world vs structs has left room inside below given good.
      chained around place p arguments (At (f.ops ++ rest) e frames core) (f.ops ++ rest) rest e frames core core raised (length args) (length w.body.types) world (type_at around place) here (plain_holds around place plain) (meant_op program no_covers o vs world)
      (f.follows program p numbers arguments rest e frames core world vs has.0 left room inside (all_stand around core args vs all given));
}
