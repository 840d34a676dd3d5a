-- A turn of a loop costs a step.
use Rattle.std.proofs.Common.{◌≡◌, ◌<◌, ◌≤◌, ℕ, ◌+◌, ◌-◌, Bool, true, false, List, [], ◌∷◌, ◌++◌, length, Option, pos, refl, sym, ap, ◌∙◌, arith, append_assoc}
use Rattle.std.specs.Prelude.{nat_lt, if◌then◌else◌}
use Rattle.std.proofs.lemmas.Bool.Decides.{nat_tests}
use Rattle.std.proofs.lemmas.List.{append-nil, get_or-set_same, get_or-set_other, length-set}
use Rattle.csub_tree.specs.State.{Value, Unset, Flag, Block, Core}
use Rattle.csub_tree.specs.declared.tree.CConst.TheVariants as constant
use Rattle.csub_tree.specs.declared.tree.COperand.TheVariants.{Const}
use Rattle.ll_code.specs.State.{Frame, At}
use Rattle.ll_code.specs.declared.program.LlOp.{LlOp}
use Rattle.ll_code.specs.declared.program.LlOp.TheVariants as op
use Rattle.ll_code.specs.declared.program.LlExit.{LlExit}
use Rattle.ll_code.specs.declared.program.LlProgram.{LlProgram}
use Rattle.ll_leads.proofs.Joined.{leads_more}
use Rattle.ll_leads.proofs.Ways.{on, rests, pays, lacks}
use Rattle.rpy_tree.specs.Value.{Value as Meant, Nothing, Heap}
use Rattle.rpy_meaning.specs.declared.row.RowOp.TheVariants as row
use Rattle.rpy_meaning.specs.Operations.{op as meant_op}
use Rattle.rpy_meaning.specs.World.{World, Gives, Lacks}
use Rattle.rtyper_layout.specs.declared.layout.Layout.{Layout}
use Rattle.rtyper_data.specs.Converting.{nothing_to}
use Rattle.rtyper_data.specs.Numbers.{word}
use Rattle.rtyper_data.specs.Seen.{Writing, writing, push}
use Rattle.rtyper_op.specs.Lowering.{lower_op, of_some, literal}
use Rattle.lower_laws.proofs.Doing.{after}
use Rattle.lower_laws.proofs.Single.{sets}
use Rattle.lower_laws.proofs.Typing.{place_of_none}
use Rattle.object_laws.specs.Done.{Follows, references}
use Rattle.object_laws.specs.Ghost.{Ghost}
use Rattle.object_laws.specs.Known.{Known}
use Rattle.object_laws.specs.Represents.{Represents}
use Rattle.object_laws.specs.Values.{Alone, Given}
use Rattle.object_laws.proofs.Changing.{list_kept}
use Rattle.object_laws.proofs.Growing.{grown_none}
use Rattle.conversion_laws.specs.Turns.{TurnsArePaid}

-- fewer steps are left
pub fewer_left : {layout : Layout} {known : Known} {g : Ghost} {heap : Heap} {left fewer : ℕ} {blocks : List (Option Block)} {statics : List Block} → fewer ≤ left → Represents layout known g heap left blocks statics → Represents layout known g heap fewer blocks statics
fewer_left less r = record {
  made = r.made;
  fixed = r.fixed;
  homes = r.homes;
  few = (let f = r.few in omega (arith, f, less));
  stays = r.stays;
  settled = r.settled;
  constants = r.constants;
  vtables = r.vtables;
  exceptions = r.exceptions;
  sites = r.sites;
  lists = λ n i head h struct. list_kept grown_none i head (λ o k. k) (λ x u b k of is. is) n less (r.lists n i head h struct);
  instances = r.instances;
  dicts = r.dicts;
}

pub turns_are_paid : TurnsArePaid
unfolding of_some literal
turns_are_paid known around place w covers h = record {
  ops = op.Step (word (pos 1)) ∷ op.Set place.variable (Const (constant.Bool false)) ∷ [];
  new = [];
  asked = ap (λ (w : Writing). w.found) is;
  written = ap (λ (w : Writing). w.body.ops) is ∙ append_assoc w.body.ops (op.Step (word (pos 1)) ∷ []) (op.Set place.variable (Const (constant.Bool false)) ∷ []);
  types = ap (λ (w : Writing). w.body.types) is ∙ sym (append-nil w.body.types);
  follows = λ p numbers raised arguments rest e frames core g world vs has asked r left room inside below given good. follow p raised arguments rest e frames core g world vs r left room inside given;
}
  where
    is : lower_op around row.Turn place [] w ≡ writing w.found (record { types = w.body.types; ops = (w.body.ops ++ op.Step (word (pos 1)) ∷ []) ++ op.Set place.variable (Const (constant.Bool false)) ∷ [] })
    is = ap (λ t. writing w.found (nothing_to place t (push (op.Step (word (pos 1))) w).body)) (place_of_none around.layout place.element h)

    paid : (p : LlProgram) (raised : ℕ → Value) (arguments : List (List ℕ)) (rest : List LlOp) (e : LlExit) (frames : List Frame) (core : Core) (g : Ghost) (world : World) (c : Bool) → nat_lt world.left 1 ≡ c
        → Represents around.layout known g world.heap world.left core.blocks core.statics → world.left ≡ core.steps → place.variable < length core.vars
        → Follows 0 known around place p arguments (At (op.Step (word (pos 1)) ∷ op.Set place.variable (Const (constant.Bool false)) ∷ rest) e frames core) rest e frames core g raised (references world.heap []) (length w.body.types) world (if c then Lacks else Gives Nothing (record world { left = world.left - 1 }))
    paid p raised arguments rest e frames core g world true c r left inside = record {
      last = At (op.Step (word (pos 1)) ∷ op.Set place.variable (Const (constant.Bool false)) ∷ rest) e frames core;
      leads = rests;
      ends = lacks p arguments (op.Set place.variable (Const (constant.Bool false)) ∷ rest) e frames core (word (pos 1)) 1 refl (let few : world.left < 1 = grind (arith, nat_tests, c) in omega (arith, few, left));
      blocks = refl;
      holds = λ placed b h. h;
    }
    paid p raised arguments rest e frames core g world false c r left inside =
        let enough : 1 ≤ world.left = grind (arith, nat_tests, c) in
        let stepped : Core = record core { at = core.at + 1; steps = world.left - 1 } in
        record {
          end = after stepped place.variable (Flag false);
          text = [];
          leads = leads_more 0 (references world.heap []) (omega arith) (on (pays 1 (world.left - 1) refl (omega (arith, left, enough))) (sets (Flag false) refl refl));
          ghost = g;
          grown = grown_none;
          stands = fewer_left (omega arith) r;
          holds = Alone h (get_or-set_same core.vars place.variable (Flag false) Unset inside) refl;
          few = omega arith;
          memory = refl;
          others = λ n under other. get_or-set_other core.vars place.variable n (Flag false) _ other;
          room = length-set core.vars place.variable (Flag false);
          function = refl;
          block = refl;
          out = sym (append-nil world.out);
        }

    follow : (p : LlProgram) (raised : ℕ → Value) (arguments : List (List ℕ)) (rest : List LlOp) (e : LlExit) (frames : List Frame) (core : Core) (g : Ghost) (world : World) (vs : List Meant)
        → Represents around.layout known g world.heap world.left core.blocks core.statics → world.left ≡ core.steps → length w.body.types + 0 ≤ length core.vars → place.variable < length w.body.types → Given known around g core [] vs
        → Follows 0 known around place p arguments (At (op.Step (word (pos 1)) ∷ op.Set place.variable (Const (constant.Bool false)) ∷ rest) e frames core) rest e frames core g raised (references world.heap vs) (length w.body.types) world (meant_op known.program covers row.Turn vs world)
    follow p raised arguments rest e frames core g world [] r left room inside given = paid p raised arguments rest e frames core g world (nat_lt world.left 1) refl r left (omega (arith, room, inside))
    follow p raised arguments rest e frames core g world (v ∷ vs) r left room inside given = absurd given
