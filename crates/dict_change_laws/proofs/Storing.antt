-- The graph that stores the value of a key.
use Rattle.dict_find_laws.specs.Keys.{IsThere}
use Rattle.std.proofs.Common.{◌≡◌, ◌<◌, ◌≤◌, ◌⊎◌, inl, inr, ℕ, ◌+◌, ◌-◌, ◌^◌, ◌||◌, true, false, List, [], ◌∷◌, ◌++◌, length, Option, Some, None, pos, negsuc, refl, sym, ap, ◌∙◌, subst, arith, length-append}
use Rattle.std.specs.Prelude.{slice_get, slice_set}
use Rattle.csub_tree.specs.State.{Value, Unset, Word, Flag, Block, Core}
use Rattle.csub_tree.specs.Operation.{is_unset}
use Rattle.ll_build.specs.Build.{word}
use Rattle.ll_code.specs.State.{Frame, Calling, At}
use Rattle.ll_code.specs.declared.program.LlProgram.{LlProgram}
use Rattle.ll_leads.specs.Memory.{forgotten}
use Rattle.ll_leads.specs.Path.{Leads}
use Rattle.ll_leads.proofs.Joined.{leads_then, leads_more}
use Rattle.ll_leads.proofs.Ways.{many, enter, gives, lacks, pays}
use Rattle.ll_texts.specs.Follows.{Lacked}
use Rattle.ll_texts.proofs.Numbers.{less_false}
use Rattle.rpy_tree.specs.Value.{Value as Meant, Mapped, Heap}
use Rattle.rpy_meaning.specs.Compare.{is_equal}
use Rattle.rpy_meaning.specs.Sequences.{with_key}
use Rattle.rtyper_layout.specs.declared.dicts.Mapping.{Mapping}
use Rattle.rtyper_layout.specs.declared.layout.Layout.{Layout}
use Rattle.rtyper_layout.specs.Dicts.{is_indexed, stored_key, stored_value}
use Rattle.rtyper_layout.specs.Layout.{mapping_at}
use Rattle.rtyper_dict.specs.Changing.{add_graph, store_graph, store_blocks, store_asks, store_adds, store_puts, store_types}
use Rattle.rtyper_dict.specs.Parts.{shape_of}
use Rattle.dict_laws.specs.Keys.{position_from}
use Rattle.dict_find_laws.specs.Finding.{place_word}
use Rattle.object_laws.specs.Dicts.{DictAt, Arrays, Lacks, as_item, keys_of}
use Rattle.object_laws.specs.Done.{HasLayout}
use Rattle.object_laws.specs.Ghost.{Ghost, Grown, DictOf}
use Rattle.object_laws.specs.Known.{Known}
use Rattle.object_laws.specs.Represents.{Represents}
use Rattle.object_laws.specs.Values.{Holds}
use Rattle.object_laws.proofs.Blocks.{found_set}
use Rattle.object_laws.proofs.Calling.{Returns, calls_back}
use Rattle.object_laws.proofs.Growing.{grown_none, holds_grows}
use Rattle.object_laws.proofs.Valued.{held_set}
use Rattle.dict_change_laws.proofs.Adding.{EntersBy, Added, added}
use Rattle.dict_change_laws.proofs.Changes.{fewer_steps}
use Rattle.dict_change_laws.proofs.Growing.{GrowsBy, Roomed, makes_room}
use Rattle.dict_change_laws.proofs.Keeping.{Written, written, kept_stands, kept_few}
use Rattle.dict_change_laws.specs.Changed.{AreThere}
use Rattle.dict_change_laws.proofs.Keyed.{item_set}
use Rattle.dict_change_laws.proofs.Pairs.{Split, split, New, is_new}
use Rattle.dict_change_laws.proofs.Standing.{the_shape}

pub record StoresBy (p : LlProgram) (args : List (List ℕ)) (layout : Layout) (known : Known) (m : Mapping) (f : ℕ) : Type 0 where
  pub finds : ℕ
  pub grows : ℕ
  pub adds : ℕ
  pub enterer : Option ℕ
  pub graph : slice_get p.graphs f ≡ Some (store_graph finds grows adds (the_shape m))
  pub growing : GrowsBy p args layout known m grows
  pub adding : slice_get p.graphs adds ≡ Some (add_graph enterer (shape_of m))
  pub entering : EntersBy p args layout known m (is_indexed m) enterer

-- what the call leaves
pub record Stored (p : LlProgram) (args : List (List ℕ)) (layout : Layout) (known : Known) (g : Ghost) (heap : Heap) (fewer i : ℕ) (head : Value) (pairs : List (Meant × Meant)) (f most : ℕ) (x y : Value) (core : Core) : Type 0 where
  pub blocks : List (Option Block)
  pub statics : List Block
  pub ghost : Ghost
  pub grown : Grown g ghost
  pub stands : Represents layout known ghost (slice_set heap i (Mapped pairs)) fewer blocks statics
  pub few : length blocks ≤ length core.blocks + 2
  pub returns : (waits : List Frame) → Returns p args most (Calling f (head ∷ x ∷ y ∷ []) waits core) Unset waits (record core { blocks = blocks; statics = statics; steps = fewer })

module _ (p : LlProgram) (args : List (List ℕ)) (layout : Layout) (known : Known) (structs : HasLayout p layout) (n : ℕ) (m : Mapping) (mapping : mapping_at layout.mappings n ≡ Some m) (f : ℕ) (by : StoresBy p args layout known m f)
    (g : Ghost) (heap : Heap) (left : ℕ) (core : Core) (r : Represents layout known g heap left core.blocks core.statics) (steps : left ≡ core.steps) (i : ℕ) (head : Value) (home : slice_get g.homes i ≡ Some (record { sort = DictOf n; head = head })) (l : DictAt layout known g heap core.blocks core.statics m i head)
    (kx vx : Value) (k v : Meant) (k_held : Holds layout known g (known.keys m.dict) kx k) (v_held : Holds layout known g (known.items m.dict) vx v) (k_there : is_indexed m ≡ true → IsThere k) (there : is_indexed m ≡ true → AreThere (keys_of l.pairs))
    (finding : (vars : List Value) (waits : List Frame) → Returns p args 0 (Calling by.finds (head ∷ as_item m.key (stored_key m) kx ∷ []) waits (record core { function = f; block = 0; at = 0; vars = vars })) (place_word (position_from is_equal 0 (keys_of l.pairs) k)) waits (record core { function = f; block = 0; at = 0; vars = vars })) where
  abbrev count : ℕ
  count = length l.pairs

  abbrev x : Value
  x = as_item m.key (stored_key m) kx

  abbrev y : Value
  y = as_item m.value (stored_value m) vx

  x_set : is_unset x ≡ false
  x_set = item_set m.key (stored_key m) kx (held_set r k_held)

  y_set : is_unset y ≡ false
  y_set = item_set m.value (stored_value m) vx (held_set r v_held)

  head_set : is_unset head ≡ false
  head_set = found_set core.blocks core.statics head _ l.head_is

  abbrev vars : Value → Value → List Value
  vars v3 v4 = head ∷ x ∷ y ∷ v3 ∷ v4 ∷ Unset ∷ Unset ∷ Unset ∷ Unset ∷ Unset ∷ Unset ∷ []

  abbrev most : ℕ
  most = count + count + 4

  -- ---- a key that is there

  module _ (at : ℕ) (place_is : position_from is_equal 0 (keys_of l.pairs) k ≡ Some at) where
    s : Split k l.pairs at
    s = split k l.pairs at place_is

    never_empty : (pre post : List (Meant × Meant)) (q : Meant × Meant) → l.pairs ≡ pre ++ q ∷ post → l.pairs ≡ [] → ⊥
    never_empty pre post q h e = (let w = length-append pre (q ∷ post) in let u : length l.pairs ≡ length (pre ++ q ∷ post) = ap length h in let z : length l.pairs ≡ 0 = ap length e in omega (arith, w, u, z))

    arrays : Arrays layout known g core.blocks core.statics m i l.pairs l.places l.one l.two
    arrays = of l.arrays
      where
        of : Lacks layout known g core.blocks core.statics m i l.pairs l.places l.one l.two ⊎ Arrays layout known g core.blocks core.statics m i l.pairs l.places l.one l.two → Arrays layout known g core.blocks core.statics m i l.pairs l.places l.one l.two
        of (inl a) = absurd (never_empty s.pre s.post s.pair s.are a.empty)
        of (inr a) = a

    w : Written p args layout known structs n m mapping g heap left core r i head home l arrays at k s vx v v_held x (Flag false) f
    w = written p args layout known structs n m mapping g heap left core r i head home l arrays at k s vx v v_held x (Flag false) f

    pub stored_kept : Stored p args layout known g heap left i head (with_key k v l.pairs) f most x y core
    unfolding store_graph store_blocks store_asks store_adds store_puts store_types
    stored_kept = record {
      blocks = w.blocks;
      statics = w.statics;
      ghost = g;
      grown = grown_none;
      stands = subst (λ ps. Represents layout known g (slice_set heap i (Mapped ps)) left w.blocks w.statics) (sym (s.stored v)) (kept_stands p args layout known structs n m mapping g heap left core r i head home l arrays at k s vx v v_held x (Flag false) f w);
      few = (let q = kept_few p args layout known structs n m mapping g heap left core r i head home l arrays at k s vx v v_held x (Flag false) f w in omega (arith, q));
      returns = λ waits. record {
        end = _;
        same = ap (λ n. forgotten (record core { blocks = w.blocks; statics = w.statics; steps = n })) (sym steps);
        leads = leads_more (0 + (0 + (0 + (0 + (1 + 0))))) most (omega arith)
            (leads_then (enter by.graph refl)
            (leads_then (calls_back {core = record core { function = f; block = 0; at = 0; vars = vars Unset Unset }} 0 refl (ap (λ b. b || (is_unset x || false)) head_set ∙ ap (λ b. b || false) x_set) (λ waits. subst (λ o. Returns p args 0 (Calling by.finds (head ∷ x ∷ []) waits (record core { function = f; block = 0; at = 0; vars = vars Unset Unset })) (place_word o) waits (record core { function = f; block = 0; at = 0; vars = vars Unset Unset })) place_is (finding (vars Unset Unset) waits)))
            (leads_then (gives (Flag false) (less_false at 0 (omega arith)))
            (leads_then (many 1 by.graph refl (ap (λ b. b || (is_unset y || (false || false))) head_set ∙ ap (λ b. b || (false || false)) y_set))
            (leads_then (w.leads waits) (many 1 by.graph refl refl))))));
      };
    }

  -- ---- a new key

  module _ (place_is : position_from is_equal 0 (keys_of l.pairs) k ≡ None) where
    new : New k l.pairs
    new = is_new k l.pairs place_is

    abbrev asked : Core
    asked = record core { function = f; block = 1; at = 0; vars = vars (Word (negsuc 0)) (Flag true) }

    to_pay : (waits : List Frame) → Leads p args 0 (Calling f (head ∷ x ∷ y ∷ []) waits core) [] (At (store_adds by.grows by.adds).ops (store_adds by.grows by.adds).exit waits asked)
    unfolding store_graph store_blocks store_asks store_adds store_puts store_types
    to_pay waits = leads_more (0 + (0 + (0 + 0))) 0 (omega arith)
        (leads_then (enter by.graph refl)
        (leads_then (calls_back {core = record core { function = f; block = 0; at = 0; vars = vars Unset Unset }} 0 refl (ap (λ b. b || (is_unset x || false)) head_set ∙ ap (λ b. b || false) x_set) (λ waits. subst (λ o. Returns p args 0 (Calling by.finds (head ∷ x ∷ []) waits (record core { function = f; block = 0; at = 0; vars = vars Unset Unset })) (place_word o) waits (record core { function = f; block = 0; at = 0; vars = vars Unset Unset })) place_is (finding (vars Unset Unset) waits)))
        (leads_then (gives (Flag true) refl) (many 1 by.graph refl (ap (λ b. b || (is_unset x || (is_unset y || false))) head_set ∙ ap (λ b. b || (is_unset y || false)) x_set ∙ ap (λ b. b || false) y_set)))))

    -- the steps do not suffice
    pub store_lacks : left < 1 → (waits : List Frame) → Lacked p args (Calling f (head ∷ x ∷ y ∷ []) waits core) core
    unfolding store_graph store_blocks store_asks store_adds store_puts store_types
    store_lacks short waits = record {
      last = At (store_adds by.grows by.adds).ops (store_adds by.grows by.adds).exit waits asked;
      leads = to_pay waits;
      ends = lacks p args _ _ waits asked (word (pos 1)) 1 refl (omega (arith, short, steps));
      blocks = refl;
      holds = λ b k. k;
    }

    module _ (enough : 1 ≤ left) (few : count + 1 < 2 ^ 62) where
      abbrev inner : Core
      inner = record asked { at = 1; steps = left - 1 }

      roomed : Roomed p args layout known g heap (left - 1) m i head l.pairs by.grows inner
      roomed = makes_room p args layout known structs n m mapping by.grows by.growing g heap (left - 1) inner (fewer_steps (omega arith) r) i head home l there few

      abbrev inner2 : Core
      inner2 = record inner { at = 2; blocks = roomed.blocks; statics = roomed.statics }

      d : DictAt layout known roomed.ghost heap roomed.blocks roomed.statics m i head
      d = roomed.roomy.dict

      same_pairs : d.pairs ≡ l.pairs
      unfolding d
      same_pairs = roomed.roomy.same

      it : Added p args layout known roomed.ghost heap (left - 1) i head (d.pairs ++ (k, v) ∷ []) by.adds x y inner2
      unfolding d
      it = added p args layout known structs n m mapping by.adds by.enterer by.adding by.entering roomed.ghost heap (left - 1) inner2 roomed.roomy.stands i head (ap (λ hs. slice_get hs i) roomed.homes ∙ home) d roomed.roomy.arrays roomed.roomy.room kx vx k v
          (subst (New k) (sym roomed.roomy.same) new) (holds_grows roomed.grown k_held) (holds_grows roomed.grown v_held) k_there

      pairs_are : d.pairs ++ (k, v) ∷ [] ≡ with_key k v l.pairs
      pairs_are = ap (λ ps. ps ++ (k, v) ∷ []) same_pairs ∙ sym (new.stored v)

      pub stored_new : Stored p args layout known g heap (left - 1) i head (with_key k v l.pairs) f most x y core
      unfolding store_graph store_blocks store_asks store_adds store_puts store_types
      stored_new = record {
        blocks = it.blocks;
        statics = it.statics;
        ghost = roomed.ghost;
        grown = roomed.grown;
        stands = subst (λ ps. Represents layout known roomed.ghost (slice_set heap i (Mapped ps)) (left - 1) it.blocks it.statics) pairs_are it.stands;
        few = (let q = it.few in let t = roomed.few in omega (arith, q, t));
        returns = λ waits. record {
          end = _;
          same = refl;
          leads = leads_more (0 + (0 + ((count + count + 2) + (2 + 0)))) most (omega arith)
              (leads_then (to_pay waits)
              (leads_then (pays 1 (left - 1) refl (omega (arith, enough, steps)))
              (leads_then (calls_back {core = inner} (count + count + 2) refl (ap (λ b. b || false) head_set) roomed.returns)
              (leads_then (calls_back {core = inner2} 2 refl (ap (λ b. b || (is_unset x || (is_unset y || false))) head_set ∙ ap (λ b. b || (is_unset y || false)) x_set ∙ ap (λ b. b || false) y_set) it.returns)
              (many 1 by.graph refl refl)))));
        };
      }
