-- A list that is made in two blocks, whose items are copied from others.
use Rattle.std.proofs.Common.{◌≡◌, ◌<◌, ◌≤◌, ℕ, zero, suc, ◌+◌, ◌^◌, false, true, List, [], ◌∷◌, ◌++◌, length, Option, Some, None, pos, refl, sym, ap, ◌∙◌, subst, arith, append_assoc, length-append}
use Rattle.std.specs.Prelude.{slice_get, slice_set, slice_index_or, replicate}
use Rattle.csub_tree.specs.State.{Value, Unset, Word, Ptr, Block, Core}
use Rattle.csub_tree.specs.Layout.{shape_at, shape_over}
use Rattle.csub_tree.specs.Operation.{is_unset}
use Rattle.ll_code.specs.State.{Frame, State, Calling}
use Rattle.ll_code.specs.Machine.{shapes_of}
use Rattle.ll_code.specs.declared.program.LlType.{LlType}
use Rattle.ll_code.specs.declared.program.LlProgram.{LlProgram}
use Rattle.ll_leads.specs.Memory.{forgotten}
use Rattle.ll_texts.specs.Texts.{found}
use Rattle.ll_texts.proofs.Reading.{below_length}
use Rattle.rpy_tree.specs.Value.{Value as Meant, Listed, Heap}
use Rattle.rtyper_layout.specs.declared.layout.Layout.{Layout}
use Rattle.rtyper_layout.specs.Layout.{is_list}
use Rattle.rtyper_layout.specs.Types.{word}
use Rattle.list_laws.proofs.Copying.{AllSet, array_with}
use Rattle.object_laws.specs.Known.{Known}
use Rattle.object_laws.specs.Ghost.{Ghost, Grown, Use, use_of, ListOf}
use Rattle.object_laws.specs.Represents.{Represents, HasRoom, is_settled, head_block, array_block}
use Rattle.object_laws.specs.Values.{EachHolds}
use Rattle.object_laws.proofs.Calling.{Returns}
use Rattle.object_laws.proofs.Made.{found_more, get_first, with_list, list_grown, list_made}
use Rattle.object_laws.proofs.Valued.{each_long}
use Rattle.list_copy_laws.proofs.Between.{the_copy, copied_over}

-- ---- items that are not set

abbrev pub raw : ℕ → List Value
raw k = replicate k Unset

pub raw_long : (k : ℕ) → length (raw k) ≡ k
raw_long zero = refl
raw_long (suc k) = ap suc (raw_long k)

pub raw_both : (m n : ℕ) → raw (m + n) ≡ raw m ++ raw n
raw_both zero n = ap raw (let e : 0 + n ≡ n = omega arith in e)
raw_both (suc m) n = ap raw (let e : suc m + n ≡ suc (m + n) = omega arith in e) ∙ ap (λ l. Unset ∷ l) (raw_both m n)

-- ---- two blocks more

-- an array with so many places and these items, and its head
abbrev pub two_more : List (Option Block) → ℕ → ℕ → List Value → List (Option Block)
two_more bs n k items = (bs ++ Some (array_with (word (n + 1)) (Word (pos k) ∷ []) items) ∷ []) ++ Some (head_block n k (Ptr (length bs))) ∷ []

put_inner : (bs : List (Option Block)) (x y z : Option Block) → slice_set ((bs ++ x ∷ []) ++ z ∷ []) (length bs) y ≡ (bs ++ y ∷ []) ++ z ∷ []
put_inner [] x y z = refl
put_inner (b ∷ bs) x y z = ap (λ l. b ∷ l) (put_inner bs x y z)

inner_is : (bs : List (Option Block)) (x z : Option Block) → slice_index_or ((bs ++ x ∷ []) ++ z ∷ []) (length bs) None ≡ x
inner_is [] x z = refl
inner_is (b ∷ bs) x z = inner_is bs x z

outer_is : (bs : List (Option Block)) (z : Option Block) → slice_index_or (bs ++ z ∷ []) (length bs) None ≡ z
outer_is [] z = refl
outer_is (b ∷ bs) z = outer_is bs z

module _ (bs : List (Option Block)) (n k : ℕ) (items : List Value) where
  abbrev pub head_of : Value
  head_of = Ptr (length (bs ++ Some (array_with (word (n + 1)) (Word (pos k) ∷ []) items) ∷ []))

  pub array_found : (statics : List Block) → found (two_more bs n k items) statics (Ptr (length bs)) ≡ Some (array_with (word (n + 1)) (Word (pos k) ∷ []) items)
  array_found statics = inner_is bs (Some (array_with (word (n + 1)) (Word (pos k) ∷ []) items)) (Some (head_block n k (Ptr (length bs))))

  pub head_found : (statics : List Block) → found (two_more bs n k items) statics head_of ≡ Some (head_block n k (Ptr (length bs)))
  head_found statics = outer_is (bs ++ Some (array_with (word (n + 1)) (Word (pos k) ∷ []) items) ∷ []) (Some (head_block n k (Ptr (length bs))))

  pub old_found : (statics : List Block) (x : Value) (b : Block) → found bs statics x ≡ Some b → found (two_more bs n k items) statics x ≡ Some b
  old_found statics x b h = found_more (bs ++ Some (array_with (word (n + 1)) (Word (pos k) ∷ []) items) ∷ []) (Some (head_block n k (Ptr (length bs))) ∷ []) statics x b (found_more bs (Some (array_with (word (n + 1)) (Word (pos k) ∷ []) items) ∷ []) statics x b h)

pub two_long : (bs : List (Option Block)) (n k : ℕ) (items : List Value) → length (two_more bs n k items) ≡ length bs + 2
two_long bs n k items = (let q : length (two_more bs n k items) ≡ length (bs ++ Some (array_with (word (n + 1)) (Word (pos k) ∷ []) items) ∷ []) + 1 = length-append (bs ++ Some (array_with (word (n + 1)) (Word (pos k) ∷ []) items) ∷ []) (Some (head_block n k (Ptr (length bs))) ∷ []) in let s : length (bs ++ Some (array_with (word (n + 1)) (Word (pos k) ∷ []) items) ∷ []) ≡ length bs + 1 = length-append bs (Some (array_with (word (n + 1)) (Word (pos k) ∷ []) items) ∷ []) in omega (arith, q, s))

-- ---- items are copied into the array

module _ (p : LlProgram) (args : List (List ℕ)) (a n f : ℕ) (t : LlType) (shape : shape_at (shapes_of p.structs) a ≡ shape_over a 1 None) (shape2 : shape_at (shapes_of p.structs) (word (n + 1)) ≡ shape_over (word (n + 1)) 1 None) (graph : slice_get p.graphs f ≡ Some (the_copy a (word (n + 1)) t))
    (g : Ghost) (bs : List (Option Block)) (made : length g.blocks ≡ length bs) (source : Value) (u : Use) (source_use : use_of g source ≡ Some u) (old : Block) (kind : old.kind ≡ a) (small : length old.items < 2 ^ 63) (k : ℕ) (few : k < 2 ^ 63) where
  source_apart : source ≡ Ptr (length bs) → ⊥
  source_apart e = (let q : slice_get g.blocks (length bs) ≡ Some u = ap (use_of g) (sym e) ∙ source_use in let m = below_length g.blocks (length bs) u q in omega (arith, m, made))

  -- so many items from a place on come to a place
  pub fills : (core : Core) (xs ys pre0 post0 pre post : List Value) → core.blocks ≡ two_more bs n k (pre ++ (ys ++ post)) → found bs core.statics source ≡ Some old → old.items ≡ pre0 ++ (xs ++ post0) → AllSet xs → length ys ≡ length xs → length (pre ++ (ys ++ post)) ≡ k
      → (waits : List Frame) → Returns p args (length xs) (Calling f (source ∷ Word (pos (length pre0)) ∷ Ptr (length bs) ∷ Word (pos (length pre)) ∷ Word (pos (length xs)) ∷ []) waits core) Unset waits (record core { blocks = two_more bs n k (pre ++ (xs ++ post)) })
  fills core xs ys pre0 post0 pre post is there items set long full waits =
      let it = copied_over p args a (word (n + 1)) f t shape shape2 graph source (Ptr (length bs)) (Word (pos k) ∷ []) old kind source_apart small core xs ys pre0 post0 pre post long
      (ap (λ bs. found bs core.statics source) is ∙ old_found bs n k (pre ++ (ys ++ post)) core.statics source old there) items set
      (ap (λ l. found l core.statics (Ptr (length bs))) is ∙ array_found bs n k (pre ++ (ys ++ post)) core.statics) (subst (λ m. m < 2 ^ 63) (sym full) few) waits in
      record {
        end = it.end;
        same = it.same ∙ ap (λ l. forgotten (record core { blocks = l }))
            (ap (λ l. slice_set l (length bs) (Some (array_with (word (n + 1)) (Word (pos k) ∷ []) (pre ++ (xs ++ post))))) is
            ∙ put_inner bs (Some (array_with (word (n + 1)) (Word (pos k) ∷ []) (pre ++ (ys ++ post)))) (Some (array_with (word (n + 1)) (Word (pos k) ∷ []) (pre ++ (xs ++ post)))) (Some (head_block n k (Ptr (length bs)))));
        leads = it.leads;
      }

-- ---- the list

-- what a call leaves that makes a list
pub record MadeList (p : LlProgram) (args : List (List ℕ)) (layout : Layout) (known : Known) (g : Ghost) (heap : Heap) (fewer n : ℕ) (vs : List Meant) (many : ℕ) (s : List Frame → State) (core : Core) : Type 0 where
  pub blocks : List (Option Block)
  pub head : Value
  pub ghost : Ghost
  pub grown : Grown g ghost
  pub stands : Represents layout known ghost (heap ++ Listed vs ∷ []) fewer blocks core.statics
  pub home : slice_get ghost.homes (length heap) ≡ Some (record { sort = ListOf n; head = head })
  pub set : is_unset head ≡ false
  pub few : length blocks ≡ length core.blocks + 2
  pub returns : (waits : List Frame) → Returns p args many (s waits) head waits (record core { blocks = blocks; steps = fewer })

-- all its items are there
pub made_so : (p : LlProgram) (args : List (List ℕ)) (layout : Layout) (known : Known) (g : Ghost) (heap : Heap) (left fewer n : ℕ) (vs : List Meant) (many : ℕ) (s : List Frame → State) (core : Core) (xs ys : List Value) (k : ℕ)
    → Represents layout known g heap left core.blocks core.statics → fewer ≤ left → is_list layout n ≡ true → EachHolds layout known g (known.items n) xs vs → k ≡ length vs → length xs < 2 ^ 63 → HasRoom (length vs) fewer → (is_settled layout n ≡ false) × (is_settled layout (word (n + 1)) ≡ false)
    → ((waits : List Frame) → Returns p args many (s waits) (head_of core.blocks n k ys) waits (record core { blocks = two_more core.blocks n k xs; steps = fewer })) → MadeList p args layout known g heap fewer n vs many s core
made_so p args layout known g heap left fewer n vs many s core xs ys k r less struct each long short room apart returns = record {
  blocks = two_more core.blocks n k xs;
  head = head_of core.blocks n k ys;
  ghost = with_list g n (length heap);
  grown = list_grown g n (length heap);
  stands = subst (λ bs. Represents layout known (with_list g n (length heap)) (heap ++ Listed vs ∷ []) fewer bs core.statics) same (list_made r n fewer xs vs less struct each short room apart);
  home = get_first g.homes [] (record { sort = ListOf n; head = Ptr (length g.blocks + 1) }) (length heap) (sym r.homes) ∙ ap (λ q. Some (record { sort = ListOf n; head = Ptr q })) (sym head_is);
  set = refl;
  few = two_long core.blocks n k xs;
  returns = returns;
}
  where
    same : core.blocks ++ Some (array_block n xs) ∷ Some (head_block n (length vs) (Ptr (length core.blocks))) ∷ [] ≡ two_more core.blocks n k xs
    same = sym (append_assoc core.blocks (Some (array_block n xs) ∷ []) (Some (head_block n (length vs) (Ptr (length core.blocks))) ∷ []))
        ∙ ap (λ q. (core.blocks ++ Some (array_with (word (n + 1)) (Word (pos q) ∷ []) xs) ∷ []) ++ Some (head_block n (length vs) (Ptr (length core.blocks))) ∷ []) (each_long each ∙ sym long)
        ∙ ap (λ q. (core.blocks ++ Some (array_with (word (n + 1)) (Word (pos k) ∷ []) xs) ∷ []) ++ Some (head_block n q (Ptr (length core.blocks))) ∷ []) (sym long)

    head_is : length (core.blocks ++ Some (array_with (word (n + 1)) (Word (pos k) ∷ []) ys) ∷ []) ≡ length g.blocks + 1
    head_is = length-append core.blocks (Some (array_with (word (n + 1)) (Word (pos k) ∷ []) ys) ∷ []) ∙ ap (λ q. q + 1) (sym r.made)
