-- What is done with values without objects is done over the relation of objects.
use Rattle.std.proofs.Common.{◌≡◌, ◌≤◌, ℕ, suc, ◌+◌, ◌⊎◌, inl, inr, true, List, [], ◌∷◌, ◌++◌, length, map, Option, Some, None, refl, sym, ap, ◌∙◌, subst, arith, length-append}
use Rattle.std.specs.Prelude.{slice_get, slice_index_or}
use Rattle.std.proofs.lemmas.List.{append-nil}
use Rattle.ann_element.specs.declared.element.Element.{Element}
use Rattle.csub_tree.specs.State.{Value, Ptr, Static, Block, Core}
use Rattle.ll_code.specs.State.{Frame, State, At}
use Rattle.ll_code.specs.declared.program.LlType.{LlType}
use Rattle.ll_code.specs.declared.program.LlType.TheVariants as type
use Rattle.ll_code.specs.declared.program.LlOp.{LlOp}
use Rattle.ll_code.specs.declared.program.LlExit.{LlExit}
use Rattle.ll_code.specs.declared.program.LlProgram.{LlProgram}
use Rattle.ll_build.specs.declared.needs.Numbers.{Numbers}
use Rattle.ll_leads.specs.Memory.{forgotten}
use Rattle.ll_leads.proofs.Joined.{leads_more}
use Rattle.ll_texts.specs.Stands.{Stands as LowStands, word, flag, byte, text, missing, nothing}
use Rattle.ll_texts.specs.Texts.{found}
use Rattle.ll_texts.proofs.Writing.{newest}
use Rattle.rpy_tree.specs.Value.{Value as Meant, Heap}
use Rattle.rpy_meaning.specs.Operations.{op as meant_op}
use Rattle.rpy_meaning.specs.World.{World, Answer, Gives, Throws, Fails, Lacks, Enters, Bad}
use Rattle.rtyper_layout.specs.declared.layout.Layout.{Layout}
use Rattle.rtyper_layout.specs.Kinds.{kind_seen}
use Rattle.rtyper_data.specs.Seen.{Around, Operand, Place}
use Rattle.rtyper_data.specs.declared.found.Found.{Found}
use Rattle.lower_laws.specs.Asked.{Ask, Has, HasAll, number_of}
use Rattle.lower_laws.specs.Done.{Came as PlainCame, Follows as PlainFollows}
use Rattle.lower_laws.specs.Values.{is_simple, Holds as LowHolds, Plain as LowPlain, Alone as LowAlone, Items as LowItems, Given as LowGiven}
use Rattle.lower_laws.proofs.Stayed.{simple_apart, simple_typed, simple_there}
use Rattle.object_laws.specs.Bridged.{AreSimple, PlainIsDone}
use Rattle.object_laws.specs.Done.{Came, Follows, AllAsked, references}
use Rattle.object_laws.specs.Ghost.{Ghost, Grown, Stays, use_of}
use Rattle.object_laws.specs.Known.{Known}
use Rattle.object_laws.specs.Represents.{Represents}
use Rattle.object_laws.specs.Values as high
use Rattle.object_laws.specs.Values.{Stands, Holds, Plain, Alone, Items, Listed, Mapped, Made, Function, Missing, Given}
use Rattle.object_laws.proofs.Changing.{list_kept, instance_kept, dict_kept}
use Rattle.object_laws.proofs.Growing.{grown_none, use_grows}
use Rattle.object_laws.proofs.Made.{found_more, settled_more, last_one}
use Rattle.object_laws.proofs.Valued.{not_simple_made, not_simple_called, simple_is_no_list, simple_is_no_dict, simple_is_there}

map_long : (bs : List Block) → length (map Some bs) ≡ length bs
map_long [] = refl
map_long (b ∷ bs) = ap suc (map_long bs)

-- ---- values

module _ {layout : Layout} {known : Known} {g : Ghost} {heap : Heap} {left : ℕ} {blocks : List (Option Block)} {statics : List Block} (r : Represents layout known g heap left blocks statics) where
  stands_low : {t : LlType} {x : Value} {v : Meant} → Stands g t x v → LowStands blocks statics t x v
  stands_low (high.word z f) = word z f
  stands_low (high.flag b) = flag b
  stands_low (high.byte b h) = byte b h
  stands_low (high.text x bytes t) = text x bytes (record { is = r.stays x _ t.is; short = t.short; small = t.small })
  stands_low high.missing = missing

  stands_high : {t : LlType} {x : Value} {v : Meant} → LowStands blocks statics t x v → (t ≡ type.Void → ⊥) → Stands g t x v
  stands_high (word z f) there = high.word z f
  stands_high (flag b) there = high.flag b
  stands_high (byte b h) there = high.byte b h
  stands_high (text x bytes t) there = high.text x bytes (record { is = r.settled x _ t.is refl; short = t.short; small = t.small })
  stands_high missing there = high.missing
  stands_high nothing there = absurd (there refl)

  pub held_low : {seen : Option Element} {x : Value} {v : Meant} → is_simple (kind_seen seen) ≡ true → Holds layout known g seen x v → LowHolds layout blocks statics seen x v
  held_low simple (Plain p s) = LowPlain p (stands_low s)
  held_low simple (Alone k e f) = LowAlone k e f
  held_low {seen = seen} simple (Items parts n xs vs e f t is all) = absurd (simple_apart (kind_seen seen) simple (ap kind_seen e))
  held_low {seen = seen} simple (Listed n i h f t s home) = absurd (simple_is_no_list (kind_seen seen) h simple)
  held_low {seen = seen} simple (Mapped n i m h f t s home) = absurd (simple_is_no_dict (kind_seen seen) h simple)
  held_low {seen = seen} simple (Made class or_none c i e f b home) = absurd (not_simple_made seen class or_none e simple)
  held_low {seen = seen} simple (Function fs or_none f n e k b l y) = absurd (not_simple_called seen fs or_none e simple)
  held_low {seen = seen} simple (Missing h e f) = absurd (simple_is_there (kind_seen seen) h simple)

  pub held_high : {seen : Option Element} {x : Value} {v : Meant} → is_simple (kind_seen seen) ≡ true → LowHolds layout blocks statics seen x v → Holds layout known g seen x v
  held_high {seen = seen} simple (LowPlain p s) = Plain p (stands_high s (λ h. simple_there (kind_seen seen) simple (sym (simple_typed layout seen (kind_seen seen) simple refl) ∙ h)))
  held_high simple (LowAlone k e f) = Alone k e f
  held_high {seen = seen} simple (LowItems parts n xs vs e f t is all) = absurd (simple_apart (kind_seen seen) simple (ap kind_seen e))

pub given_low : (known : Known) (around : Around) (g : Ghost) (heap : Heap) (left : ℕ) (core : Core) → Represents around.layout known g heap left core.blocks core.statics → (args : List Operand) (vs : List Meant) → AreSimple args → Given known around g core args vs → LowGiven around core args vs
given_low known around g heap left core r [] [] simple given = tt
given_low known around g heap left core r [] (v ∷ vs) simple given = absurd given
given_low known around g heap left core r (a ∷ args) [] simple given = absurd given
given_low known around g heap left core r (a ∷ args) (v ∷ vs) simple given = (held_low r simple.0 given.0, given_low known around g heap left core r args vs simple.1 given.1)

pub many_given : (known : Known) (around : Around) (g : Ghost) (heap : Heap) (core : Core) (args : List Operand) (vs : List Meant) → Given known around g core args vs → length args ≤ references heap vs
many_given known around g heap core [] vs given = omega arith
many_given known around g heap core (a ∷ args) [] given = absurd given
many_given known around g heap core (a ∷ args) (v ∷ vs) given = (let rest : length args ≤ references heap vs = many_given known around g heap core args vs given.1 in omega (arith, rest))

all_low : (p : LlProgram) (layout : Layout) (numbers : Numbers) (raised : ℕ → Value) (core : Core) (asks : List Ask) (made : Found) → AllAsked (Has p layout numbers raised core) asks made → HasAll p layout numbers raised core asks made
all_low p layout numbers raised core [] made has = tt
all_low p layout numbers raised core (a ∷ asks) made has = (has.0, all_low p layout numbers raised core asks (number_of a made).1 has.1)

-- ---- one block more

abbrev with_block : Ghost → Block → Ghost
with_block g b = record { blocks = g.blocks ++ Stays b ∷ []; statics = g.statics; homes = g.homes }

block_grown : (g : Ghost) (b : Block) → Grown g (with_block g b)
block_grown g b = record { uses = Stays b ∷ []; objects = []; blocks = refl; statics = refl; homes = sym (append-nil g.homes) }

module _ {layout : Layout} {known : Known} {g : Ghost} {heap : Heap} {left fewer : ℕ} {blocks : List (Option Block)} {statics : List Block} (r : Represents layout known g heap left blocks statics) (less : fewer ≤ left) where
  -- steps were paid
  paid : Represents layout known g heap fewer blocks statics
  paid = record {
    made = r.made;
    fixed = r.fixed;
    homes = r.homes;
    few = (let f = r.few in omega (arith, f, less));
    stays = r.stays;
    settled = r.settled;
    constants = r.constants;
    vtables = r.vtables;
    exceptions = r.exceptions;
    sites = r.sites;
    lists = λ n i head h struct. list_kept grown_none i head (λ o k. k) (λ x u b k of is. is) n less (r.lists n i head h struct);
    instances = r.instances;
    dicts = r.dicts;
  }

  more : (b : Block) → Represents layout known (with_block g b) heap fewer (blocks ++ Some b ∷ []) statics
  more b = record {
    made = length-append g.blocks (Stays b ∷ []) ∙ ap (λ k. k + 1) r.made ∙ sym (length-append blocks (Some b ∷ []));
    fixed = r.fixed;
    homes = r.homes;
    few = (let f = r.few in omega (arith, f, less));
    stays = stays;
    settled = settled_more layout g.blocks g.statics g.homes g.homes blocks statics (Stays b) b r.made r.settled (λ h. refl);
    constants = λ s block h. use_grows (block_grown g b) (Static s) _ (r.constants s block h);
    vtables = λ class l h. use_grows (block_grown g b) (known.vtable class).at _ (r.vtables class l h);
    exceptions = r.exceptions;
    sites = r.sites;
    lists = λ n i head h struct. list_kept (block_grown g b) i head (λ o k. k) (λ x u c k of is. found_more blocks (Some b ∷ []) statics x c is) n less (r.lists n i head h struct);
    instances = λ class i head h. instance_kept (block_grown g b) i head (λ o k. k) (λ x u c k of is. found_more blocks (Some b ∷ []) statics x c is) class (r.instances class i head h);
    dicts = λ n i head m h is. dict_kept (block_grown g b) i head (λ o k. k) (λ x u c k of is. found_more blocks (Some b ∷ []) statics x c is) m (r.dicts n i head m h is);
  }
    where
      stays : (x : Value) (block : Block) → use_of (with_block g b) x ≡ Some (Stays block) → found (blocks ++ Some b ∷ []) statics x ≡ Some block
      stays (Ptr n) block h = by (last_one g.blocks (Stays b) n (Stays block) h)
        where
          by : (slice_get g.blocks n ≡ Some (Stays block)) ⊎ ((n ≡ length g.blocks) × (Stays block ≡ Stays b)) → found (blocks ++ Some b ∷ []) statics (Ptr n) ≡ Some block
          by (inl k) = found_more blocks (Some b ∷ []) statics (Ptr n) block (r.stays (Ptr n) block k)
          by (inr (at, e)) = (let q : block ≡ b = cc in ap (λ k. slice_index_or (blocks ++ Some b ∷ []) k None) (at ∙ r.made) ∙ newest blocks (Some b) None ∙ ap Some (sym q))
      stays (Static s) block h = r.stays (Static s) block h
      stays _ block h = absurd (cc)

-- ---- what an operation comes to

pub record Later (layout : Layout) (known : Known) (g : Ghost) (heap : Heap) (fewer : ℕ) (blocks : List (Option Block)) (statics : List Block) : Type 0 where
  pub ghost : Ghost
  pub grown : Grown g ghost
  pub stands : Represents layout known ghost heap fewer blocks statics

pub later : {layout : Layout} {known : Known} {g : Ghost} {heap : Heap} {left fewer : ℕ} {blocks : List (Option Block)} {statics : List Block} → Represents layout known g heap left blocks statics → fewer ≤ left → (made : List Block) → length made ≤ 1 → Later layout known g heap fewer (blocks ++ map Some made) statics
later {layout = layout} {known = known} {g = g} {heap = heap} {fewer = fewer} {blocks = blocks} {statics = statics} r less [] few = record { ghost = g; grown = grown_none; stands = subst (λ bs. Represents layout known g heap fewer bs statics) (sym (append-nil blocks)) (paid r less) }
later {g = g} r less (b ∷ []) few = record { ghost = with_block g b; grown = block_grown g b; stands = more r less b }
later r less (b ∷ c ∷ made) few = absurd (omega (arith, few))

module _ (known : Known) (around : Around) (place : Place) (simple : is_simple (kind_seen place.element) ≡ true) (p : LlProgram) (args : List (List ℕ)) (s : State) (rest : List LlOp) (e : LlExit) (frames : List Frame) (core : Core) (g : Ghost) (raised : ℕ → Value) (fewest most below : ℕ) (enough : fewest ≤ most) (w : World)
    (r : Represents around.layout known g w.heap w.left core.blocks core.statics) where
  came : (v : Meant) (w' : World) → w'.left ≤ w.left → PlainCame around place p args s rest e frames core fewest below w v w' → Came 1 known around place p args s rest e frames core g most below w v w'
  came v w' less c =
      let it = later r less c.made c.few in
      let blocks_are : c.end.blocks ≡ core.blocks ++ map Some c.made = ap (λ (c : Core). c.blocks) c.memory in
      let statics_are : c.end.statics ≡ core.statics = ap (λ (c : Core). c.statics) c.memory in
      let stands : Represents around.layout known it.ghost w'.heap w'.left c.end.blocks c.end.statics =
      subst (λ h. Represents around.layout known it.ghost h w'.left c.end.blocks c.end.statics) (sym c.heap)
      (subst (λ bs. Represents around.layout known it.ghost w.heap w'.left bs c.end.statics) (sym blocks_are)
      (subst (λ ss. Represents around.layout known it.ghost w.heap w'.left (core.blocks ++ map Some c.made) ss) (sym statics_are) it.stands)) in
      record {
        end = c.end;
        text = c.text;
        leads = leads_more fewest most enough c.leads;
        ghost = it.ghost;
        grown = it.grown;
        stands = stands;
        holds = held_high stands simple c.holds;
        few = (let q : length c.end.blocks ≡ length core.blocks + length c.made = ap length blocks_are ∙ length-append core.blocks (map Some c.made) ∙ ap (λ k. length core.blocks + k) (map_long c.made) in let f = c.few in omega (arith, q, f));
        memory = c.memory ∙ ap (λ bs. forgotten (record core { blocks = bs; steps = w'.left })) (sym blocks_are) ∙ ap (λ ss. forgotten (record core { blocks = c.end.blocks; statics = ss; steps = w'.left })) (sym statics_are);
        others = c.others;
        room = c.room;
        function = c.function;
        block = c.block;
        out = c.out;
      }

  pub follows_high : (answer : Answer) → ((v : Meant) (w' : World) → answer ≡ Gives v w' → w'.left ≤ w.left) → PlainFollows around place p args s rest e frames core raised fewest below w answer → Follows 1 known around place p args s rest e frames core g raised most below w answer
  follows_high (Gives v w') pays c = came v w' (pays v w' refl) c
  follows_high (Throws exception w') pays c = c
  follows_high (Fails name) pays c = c
  follows_high Lacks pays c = c
  follows_high (Enters function values instead w') pays c = absurd c
  follows_high Bad pays c = tt

pub plain_is_done : (Good : List Meant → Type 0) → PlainIsDone Good
plain_is_done Good known around o covers asks place args w law simple simple_place pays = record {
  ops = law.ops;
  new = law.new;
  asked = law.asked;
  written = law.written;
  types = law.types;
  follows = λ p numbers raised arguments rest e frames core g world vs structs has stands left room inside below given good.
      follows_high known around place simple_place p arguments (At (law.ops ++ rest) e frames core) rest e frames core g raised (length args) (references world.heap vs) (length w.body.types) (many_given known around g world.heap core args vs given) world stands
      (meant_op known.program covers o vs world) (λ v w' h. pays vs world w' v h)
      (law.follows known.program p numbers raised arguments rest e frames core world vs structs.plain (all_low p around.layout numbers raised core asks w.found has) left room inside below (given_low known around g world.heap world.left core stands args vs simple given) good);
}
