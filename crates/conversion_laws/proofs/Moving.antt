-- Ways that make blocks which stay, and change no variable of before.
use Rattle.std.proofs.Common.{◌≡◌, ◌<◌, ◌≤◌, ◌⊎◌, inl, inr, ℕ, zero, suc, ◌+◌, List, [], ◌∷◌, ◌++◌, length, Option, Some, refl, sym, ap, ◌∙◌, subst, arith, append_assoc, length-append}
use Rattle.std.specs.Prelude.{slice_get, slice_index_or, None}
use Rattle.std.proofs.lemmas.List.{append-nil, get_or-set_other, length-set}
use Rattle.csub_tree.specs.State.{Value, Ptr, Static, Block, Core}
use Rattle.csub_tree.specs.Statement.{read, operand}
use Rattle.csub_tree.specs.declared.tree.COperand.{COperand}
use Rattle.csub_tree.specs.declared.tree.COperand.TheVariants.{Var, Const}
use Rattle.ll_code.specs.State.{Frame, State, At}
use Rattle.ll_code.specs.declared.program.LlOp.{LlOp}
use Rattle.ll_code.specs.declared.program.LlExit.{LlExit}
use Rattle.ll_code.specs.declared.program.LlProgram.{LlProgram}
use Rattle.ll_build.specs.declared.needs.Helper.{Helper}
use Rattle.ll_build.specs.declared.needs.Numbers.{Numbers}
use Rattle.ll_leads.specs.Memory.{forgotten}
use Rattle.ll_leads.specs.Path.{Leads}
use Rattle.ll_leads.proofs.Joined.{leads_then, leads_more}
use Rattle.ll_leads.proofs.Ways.{rests}
use Rattle.ll_strings.specs.Laws.{HasHelper}
use Rattle.ll_texts.specs.Texts.{found, HasStatics}
use Rattle.ll_texts.proofs.Writing.{newest}
use Rattle.rpy_tree.specs.Value.{Heap}
use Rattle.rtyper_layout.specs.declared.layout.Layout.{Layout}
use Rattle.rtyper_data.specs.declared.found.Found.{Found}
use Rattle.rtyper_data.specs.declared.small.Small.TheVariants as small
use Rattle.lower_laws.specs.Asked.{Ask, Help, Raise, Make, number_of, all_asked}
use Rattle.lower_laws.specs.Values.{IsBelow}
use Rattle.lower_laws.proofs.Doing.{after}
use Rattle.object_laws.specs.Done.{AllAsked}
use Rattle.object_laws.specs.Ghost.{Ghost, Grown, Stays, use_of}
use Rattle.object_laws.specs.Known.{Known}
use Rattle.object_laws.specs.Represents.{Represents}
use Rattle.object_laws.proofs.Changing.{list_kept, instance_kept, dict_kept}
use Rattle.object_laws.proofs.Growing.{grown_none, use_grows}
use Rattle.object_laws.proofs.Made.{found_more, settled_more, last_one}
use Rattle.conversion_laws.specs.Asked.{HasTo}

-- ---- ways

pub record Moved (layout : Layout) (known : Known) (p : LlProgram) (arguments : List (List ℕ)) (s : State) (rest : List LlOp) (e : LlExit) (frames : List Frame) (core : Core) (g : Ghost) (heap : Heap) (left below most count : ℕ) (end : Core) (ghost : Ghost) : Type 0 where
  pub leads : Leads p arguments most s [] (At rest e frames end)
  pub grown : Grown g ghost
  pub stands : Represents layout known ghost heap left end.blocks end.statics
  pub few : length end.blocks ≤ length core.blocks + count
  pub memory : forgotten end ≡ forgotten (record core { blocks = end.blocks })
  pub others : (n : ℕ) → n < below → read end.vars n ≡ read core.vars n
  pub room : length end.vars ≡ length core.vars
  pub function : end.function ≡ core.function
  pub block : end.block ≡ core.block

pub grown_both : {a b c : Ghost} → Grown a b → Grown b c → Grown a c
grown_both {a = a} x y = record {
  uses = x.uses ++ y.uses;
  objects = x.objects ++ y.objects;
  blocks = y.blocks ∙ ap (λ bs. bs ++ y.uses) x.blocks ∙ append_assoc a.blocks x.uses y.uses;
  statics = y.statics ∙ x.statics;
  homes = y.homes ∙ ap (λ hs. hs ++ y.objects) x.homes ∙ append_assoc a.homes x.objects y.objects;
}

module _ {layout : Layout} {known : Known} {p : LlProgram} {arguments : List (List ℕ)} {rest : List LlOp} {e : LlExit} {frames : List Frame} {heap : Heap} {left : ℕ} where
  pub stays_here : {core : Core} {g : Ghost} {below : ℕ} → Represents layout known g heap left core.blocks core.statics → Moved layout known p arguments (At rest e frames core) rest e frames core g heap left below 0 0 core g
  stays_here r = record { leads = rests; grown = grown_none; stands = r; few = omega arith; memory = refl; others = λ n under. refl; room = refl; function = refl; block = refl }

  -- variables behind the first so many are set
  pub sets_one : {s : State} {core : Core} {g : Ghost} {below : ℕ} (m : ℕ) (value : Value) → below ≤ m → Represents layout known g heap left core.blocks core.statics → Leads p arguments 0 s [] (At rest e frames (after core m value))
      → Moved layout known p arguments s rest e frames core g heap left below 0 0 (after core m value) g
  sets_one {core = core} m value h r way = record {
    leads = way;
    grown = grown_none;
    stands = r;
    few = omega arith;
    memory = refl;
    others = λ n under. get_or-set_other core.vars m n value _ (λ same. absurd (omega (arith, under, h, same)));
    room = length-set core.vars m value;
    function = refl;
    block = refl;
  }

  pub then_moved : {more : List LlOp} {s : State} {core mid end : Core} {g h ghost : Ghost} {below above most also count too : ℕ} → below ≤ above → Moved layout known p arguments s rest e frames core g heap left below most count mid h
      → Moved layout known p arguments (At rest e frames mid) more e frames mid h heap left above also too end ghost → Moved layout known p arguments s more e frames core g heap left below (most + also) (count + too) end ghost
  then_moved {end = end} h a b = record {
    leads = leads_then a.leads b.leads;
    grown = grown_both a.grown b.grown;
    stands = b.stands;
    few = (let x = a.few in let y = b.few in omega (arith, x, y));
    memory = b.memory ∙ ap (λ (c : Core). record c { blocks = end.blocks }) a.memory;
    others = λ n under. b.others n (omega (arith, under, h)) ∙ a.others n under;
    room = b.room ∙ a.room;
    function = b.function ∙ a.function;
    block = b.block ∙ a.block;
  }

  pub more_moved : {s : State} {core end : Core} {g ghost : Ghost} {below most also count too : ℕ} → most ≤ also → count ≤ too → Moved layout known p arguments s rest e frames core g heap left below most count end ghost → Moved layout known p arguments s rest e frames core g heap left below also too end ghost
  more_moved {most = most} {also = also} h k a = record {
    leads = leads_more most also h a.leads;
    grown = a.grown;
    stands = a.stands;
    few = (let x = a.few in omega (arith, x, k));
    memory = a.memory;
    others = a.others;
    room = a.room;
    function = a.function;
    block = a.block;
  }

-- an operand from before is what it was
pub operand_kept : (old new : Core) (below : ℕ) → ((n : ℕ) → n < below → read new.vars n ≡ read old.vars n) → (x : COperand) → IsBelow below x → operand new.vars x ≡ operand old.vars x
operand_kept old new below others (Var v) h = others v h
operand_kept old new below others (Const c) h = refl

-- ---- what is asked for stands over more blocks

module _ {p : LlProgram} {numbers : Numbers} {before after : Core} (statics : after.statics ≡ before.statics) (steps : after.steps ≡ before.steps) where
  pub helper_kept : {h : Helper} {f : ℕ} → HasHelper p numbers h f before → HasHelper p numbers h f after
  helper_kept has = record {
    graph = has.graph;
    shared = has.shared;
    text = has.text;
    statics = λ n. subst (λ ss. HasStatics p numbers.table ss) (sym statics) (has.statics n);
    small = (let s = has.small in omega (arith, s, steps));
  }

-- what stands in one sense stands in another
pub all_had : (Has Had : Ask → Found → Type 0) → ((a : Ask) (made : Found) → Has a made → Had a made) → (asks : List Ask) (made : Found) → AllAsked Has asks made → AllAsked Had asks made
all_had Has Had go [] made has = tt
all_had Has Had go (a ∷ asks) made has = (go a made has.0, all_had Has Had go asks (number_of a made).1 has.1)

module _ (p : LlProgram) (layout : Layout) (numbers : Numbers) (raised : ℕ → Value) (before after : Core) (statics : after.statics ≡ before.statics) (steps : after.steps ≡ before.steps) where
  pub has_to_kept : (k : ℕ) (a : Ask) (made : Found) → HasTo p layout numbers raised before k a made → HasTo p layout numbers raised after k a made
  has_to_kept zero a made h = tt
  has_to_kept (suc k) (Help h) made has = helper_kept statics steps has
  has_to_kept (suc k) (Raise h) made has = has
  has_to_kept (suc k) (Make (small.Cast m n)) made has =
      record { made = has.made; graph = has.graph; parts = all_had (HasTo p layout numbers raised before k) (HasTo p layout numbers raised after k) (λ a made h. has_to_kept k a made h) _ has.made has.parts }
  has_to_kept (suc k) (Make (small.Equal m n)) made has =
      record { made = has.made; graph = has.graph; parts = all_had (HasTo p layout numbers raised before k) (HasTo p layout numbers raised after k) (λ a made h. has_to_kept k a made h) _ has.made has.parts }
  has_to_kept (suc k) (Make _) made has = has

  pub all_kept : (k : ℕ) (asks : List Ask) (made : Found) → AllAsked (HasTo p layout numbers raised before k) asks made → AllAsked (HasTo p layout numbers raised after k) asks made
  all_kept k asks made has = all_had (HasTo p layout numbers raised before k) (HasTo p layout numbers raised after k) (λ a made h. has_to_kept k a made h) asks made has

-- ---- asks in parts

module _ (Has : Ask → Found → Type 0) where
  pub has_first : (xs ys : List Ask) (made : Found) → AllAsked Has (xs ++ ys) made → AllAsked Has xs made
  has_first [] ys made h = tt
  has_first (a ∷ xs) ys made h = (h.0, has_first xs ys (number_of a made).1 h.1)

  pub has_second : (xs ys : List Ask) (made : Found) → AllAsked Has (xs ++ ys) made → AllAsked Has ys (all_asked xs made)
  has_second [] ys made h = h
  has_second (a ∷ xs) ys made h = has_second xs ys (number_of a made).1 h.1

-- ---- one block more

abbrev pub with_block : Ghost → Block → Ghost
with_block g b = record { blocks = g.blocks ++ Stays b ∷ []; statics = g.statics; homes = g.homes }

pub block_grown : (g : Ghost) (b : Block) → Grown g (with_block g b)
block_grown g b = record { uses = Stays b ∷ []; objects = []; blocks = refl; statics = refl; homes = sym (append-nil g.homes) }

module _ {layout : Layout} {known : Known} {g : Ghost} {heap : Heap} {left : ℕ} {blocks : List (Option Block)} {statics : List Block} (r : Represents layout known g heap left blocks statics) where
  pub more : (b : Block) → Represents layout known (with_block g b) heap left (blocks ++ Some b ∷ []) statics
  more b = record {
    made = length-append g.blocks (Stays b ∷ []) ∙ ap (λ k. k + 1) r.made ∙ sym (length-append blocks (Some b ∷ []));
    fixed = r.fixed;
    homes = r.homes;
    few = r.few;
    stays = stays;
    settled = settled_more layout g.blocks g.statics g.homes g.homes blocks statics (Stays b) b r.made r.settled (λ h. refl);
    constants = λ s block h. use_grows (block_grown g b) (Static s) _ (r.constants s block h);
    vtables = λ class l h. use_grows (block_grown g b) (known.vtable class).at _ (r.vtables class l h);
    exceptions = r.exceptions;
    sites = r.sites;
    lists = λ n i head h struct. list_kept (block_grown g b) i head (λ o k. k) (λ x u c k of is. found_more blocks (Some b ∷ []) statics x c is) n (omega arith) (r.lists n i head h struct);
    instances = λ class i head h. instance_kept (block_grown g b) i head (λ o k. k) (λ x u c k of is. found_more blocks (Some b ∷ []) statics x c is) class (r.instances class i head h);
    dicts = λ n i head m h is. dict_kept (block_grown g b) i head (λ o k. k) (λ x u c k of is. found_more blocks (Some b ∷ []) statics x c is) m (r.dicts n i head m h is);
  }
    where
      stays : (x : Value) (block : Block) → use_of (with_block g b) x ≡ Some (Stays block) → found (blocks ++ Some b ∷ []) statics x ≡ Some block
      stays (Ptr n) block h = by (last_one g.blocks (Stays b) n (Stays block) h)
        where
          by : (slice_get g.blocks n ≡ Some (Stays block)) ⊎ ((n ≡ length g.blocks) × (Stays block ≡ Stays b)) → found (blocks ++ Some b ∷ []) statics (Ptr n) ≡ Some block
          by (inl k) = found_more blocks (Some b ∷ []) statics (Ptr n) block (r.stays (Ptr n) block k)
          by (inr (at, e)) = (let q : block ≡ b = cc in ap (λ k. slice_index_or (blocks ++ Some b ∷ []) k None) (at ∙ r.made) ∙ newest blocks (Some b) None ∙ ap Some (sym q))
      stays (Static s) block h = r.stays (Static s) block h
      stays _ block h = absurd (cc)
