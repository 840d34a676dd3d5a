-- The graph that takes a part of a string gives it: no byte or one as a static, and more as a new string.
use Rattle.std.proofs.Common.{◌≡◌, ◌<◌, ◌≤◌, ◌||◌, ℕ, suc, ◌+◌, ◌^◌, true, false, List, [], ◌∷◌, ◌++◌, length, map, Option, int_eq, Some, Ok, pos, refl, sym, ap, ◌∙◌, subst, arith, length-append}
use Rattle.std.specs.Prelude.{slice_get}
use Rattle.std.proofs.lemmas.Bool.Decides.{nat_tests}
use Rattle.std.proofs.lemmas.List.{append-nil}
use Rattle.csub_tree.specs.State.{Value, Unset, Word, Byte, Flag, Ptr, Static, Block, Core}
use Rattle.csub_tree.specs.Layout.{Shape as StructShape, constant}
use Rattle.csub_tree.specs.Operation.{binary_of, is_unset}
use Rattle.csub_tree.specs.declared.tree.CBinary.TheVariants.{Eq}
use Rattle.ll_code.specs.State.{Frame, Calling}
use Rattle.ll_code.specs.declared.program.LlProgram.{LlProgram}
use Rattle.ll_leads.specs.Memory.{forgotten}
use Rattle.ll_leads.proofs.Ways.{Comes, on, many, enter, gives, makes, call}
use Rattle.ll_build.specs.declared.needs.Helper.TheVariants.{StrOfChar}
use Rattle.ll_build.specs.declared.needs.Numbers.{Numbers}
use Rattle.ll_strings.specs.Laws.{HasHelper}
use Rattle.ll_texts.specs.Follows.{text_blocks}
use Rattle.ll_texts.specs.Texts.{AreBytes, IsText, HasText, HasStatics, text_block}
use Rattle.ll_texts.proofs.Reading.{is_set, gets_byte, get_mid}
use Rattle.ll_texts.proofs.Writing.{part_block, writes_length}
use Rattle.rtyper_layout.specs.declared.layout.Layout.{Layout}
use Rattle.rtyper_data.specs.declared.small.Listed.TheVariants.{Copy}
use Rattle.rtyper_data.specs.declared.small.Small.TheVariants as small
use Rattle.rtyper_data.specs.Finding.{helper_number, small_number}
use Rattle.list_shape.specs.Shapes.{item_of}
use Rattle.list_texts.specs.Splitting.{empty, part, part_graph, part_short, part_types, part_none, part_one, part_byte, part_more}
use Rattle.list_laws.proofs.Copying.{copy_is, the_copy}
use Rattle.list_copy_laws.proofs.Fresh.{raw, raw_long}
use Rattle.object_laws.proofs.Blocks.{found_set}
use Rattle.conversion_laws.proofs.Turned.{byte_comes}
use Rattle.split_laws.specs.Asked.{HasPart}
use Rattle.split_laws.proofs.Copied.{bytes_copied}

-- ---- what a part is

-- a string of two bytes or more is a new block
abbrev pub new_of : List ℕ → List (List ℕ)
new_of [] = []
new_of (b ∷ []) = []
new_of (b ∷ c ∷ bytes) = (b ∷ c ∷ bytes) ∷ []

-- and the others are statics
abbrev pub value_of : Value → ℕ → List ℕ → Value
value_of nothing next [] = nothing
value_of nothing next (b ∷ []) = Static (b + 1)
value_of nothing next (b ∷ c ∷ bytes) = Ptr next

pub equal_false : (m n : ℕ) → (m ≡ n → ⊥) → binary_of Eq (Word (pos m)) (Word (pos n)) ≡ Ok (Flag false)
equal_false m n h = let e : int_eq (pos m) (pos n) ≡ false = grind (arith, nat_tests, h) in ap (λ b. Ok (Flag b)) e

pub equal_true : (m n : ℕ) → m ≡ n → binary_of Eq (Word (pos m)) (Word (pos n)) ≡ Ok (Flag true)
equal_true m n h = let e : int_eq (pos m) (pos n) ≡ true = grind (arith, nat_tests, h) in ap (λ b. Ok (Flag b)) e

module _ (p : LlProgram) (args : List (List ℕ)) (layout : Layout) (numbers : Numbers) (raised : ℕ → Value) (f : ℕ) (core : Core) (has : HasPart p layout numbers raised core f) (texts : HasText p) where
  abbrev pub nothing : Value
  nothing = constant (empty has.made).0

  abbrev letter : ℕ
  letter = (helper_number StrOfChar (empty has.made).1).0

  abbrev copies : ℕ
  copies = (small_number (small.Listed (Copy 0 0)) (helper_number StrOfChar (empty has.made).1).1).0

  graph_is : slice_get p.graphs f ≡ Some (part_graph (empty has.made).0 letter copies)
  unfolding part
  graph_is = has.graph

  copy_graph_is : slice_get p.graphs copies ≡ Some (the_copy 0 (item_of layout 0))
  copy_graph_is = has.copies.graph ∙ ap Some (copy_is layout 0 has.copies.made)

  pub nothing_set : is_unset nothing ≡ false
  nothing_set = found_set [] core.statics nothing (text_block []) has.nothing

  module _ (waits : List Frame) (now : Core) (same : now.statics ≡ core.statics) (few : now.steps ≤ core.steps) (x : Value) (pre xs post : List ℕ) (i : ℕ) (t : IsText now.blocks now.statics x (pre ++ (xs ++ post))) (at : i ≡ length pre) where
    abbrev Answer : Type 0
    Answer = Comes p args (Calling f (x ∷ Word (pos i) ∷ Word (pos (length xs)) ∷ []) waits now) [] (value_of nothing (length now.blocks) xs) waits (record now { blocks = now.blocks ++ text_blocks (new_of xs) })

    short : i + length xs < 2 ^ 63
    short = (let s = t.short in let a = length-append pre (xs ++ post) in let b = length-append xs post in omega (arith, s, a, b, at))

    small_there : (b : ℕ) (more : List ℕ) → xs ≡ b ∷ more → AreBytes (pre ++ (xs ++ post)) → b < 256
    small_there b more h bytes = (behind pre (b ∷ more ++ post) (subst (λ l. AreBytes (pre ++ (l ++ post))) h bytes)).0
      where
        behind : (ys zs : List ℕ) → AreBytes (ys ++ zs) → AreBytes zs
        behind [] zs fine = fine
        behind (y ∷ ys) zs fine = behind ys zs fine.1

    -- the helper, as it stands then
    letter_now : (core2 : Core) → core2.statics ≡ core.statics → core2.steps ≤ core.steps → HasHelper p numbers StrOfChar letter core2
    letter_now core2 e less = (let h = has.letter in record { graph = h.graph; shared = h.shared; text = h.text; statics = λ named. subst (λ s. HasStatics p numbers.table s) (sym e) (h.statics named); small = (let s = h.small in omega (arith, s, less)) })

    x_set : is_unset x ≡ false
    x_set = is_set t

    none : xs ≡ [] → Answer
    unfolding part_graph part_short part_types part_none
    none h = subst (λ l. Comes p args (Calling f (x ∷ Word (pos i) ∷ Word (pos (length l)) ∷ []) waits now) [] (value_of nothing (length now.blocks) l) waits (record now { blocks = now.blocks ++ text_blocks (new_of l) })) (sym h)
        (record {
          end = _;
          same = ap (λ l. forgotten (record now { blocks = l })) (sym (append-nil now.blocks));
          leads = on (enter graph_is refl) (on (gives (Flag true) refl) (on (many 1 graph_is refl refl) (many 1 graph_is refl (ap (λ b. b || false) nothing_set))));
        })

    one_byte : (b : ℕ) → xs ≡ b ∷ [] → Answer
    unfolding part_graph part_short part_types part_none part_one part_byte
    one_byte b h =
        let fine : b < 256 = small_there b [] h t.small in
        let here : slice_get (pre ++ (xs ++ post)) i ≡ Some b = ap (λ l. slice_get (pre ++ (l ++ post)) i) h ∙ get_mid pre b post i at in
        let inner : Core = record now { function = f; block = 3; at = 1; vars = x ∷ Word (pos i) ∷ Word (pos 1) ∷ Flag true ∷ Byte b ∷ Unset ∷ Unset ∷ [] } in
        subst (λ l. Comes p args (Calling f (x ∷ Word (pos i) ∷ Word (pos (length l)) ∷ []) waits now) [] (value_of nothing (length now.blocks) l) waits (record now { blocks = now.blocks ++ text_blocks (new_of l) })) (sym h)
        (record {
          end = _;
          same = ap (λ l. forgotten (record now { blocks = l })) (sym (append-nil now.blocks));
          leads = on (enter graph_is refl) (on (gives (Flag false) refl) (on (many 1 graph_is refl (simp x_set)) (on (gives (Flag true) refl) (on (many 1 graph_is refl (simp x_set))
              (on (gets_byte i b texts t refl here) (on (call {core = inner} refl (λ waits. byte_comes (letter_now inner same few) b fine waits)) (many 1 graph_is refl refl)))))));
        })

    more_bytes : (b c : ℕ) (bytes : List ℕ) → xs ≡ b ∷ c ∷ bytes → Answer
    unfolding part_graph part_short part_types part_none part_one part_more
    more_bytes b c bytes h =
        let k : ℕ = length xs in
        let bs : List (Option Block) = now.blocks in
        let k_is : k ≡ suc (suc (length bytes)) = ap length h in
        let inner : Core = record now { function = f; block = 4; at = 2; vars = x ∷ Word (pos i) ∷ Word (pos k) ∷ Flag false ∷ Unset ∷ Unset ∷ Ptr (length bs) ∷ []; blocks = bs ++ Some (part_block (Word (pos k) ∷ []) (raw k)) ∷ [] } in
        let copied : (waits : List Frame) → Comes p args (Calling copies (x ∷ Word (pos i) ∷ Ptr (length bs) ∷ Word (pos 0) ∷ Word (pos k) ∷ []) waits inner) [] Unset waits (record inner { blocks = bs ++ Some (part_block (Word (pos k) ∷ []) (map Byte xs ++ [])) ∷ [] }) =
        (λ waits. bytes_copied p args copies (item_of layout 0) copy_graph_is texts waits inner bs x (Word (pos k) ∷ []) pre xs post [] (raw k) [] i 0 k (ap (λ l. bs ++ Some (part_block (Word (pos k) ∷ []) l) ∷ []) (sym (append-nil (raw k)))) t (raw_long k) at refl refl short (let s = short in omega (arith, s))) in
        let came : Comes p args (Calling f (x ∷ Word (pos i) ∷ Word (pos k) ∷ []) waits now) [] (Ptr (length bs)) waits (record now { blocks = bs ++ Some (part_block (Word (pos k) ∷ []) (map Byte xs ++ [])) ∷ [] }) =
        (record {
          end = _;
          same = refl;
          leads = on (enter graph_is refl) (on (gives (Flag false) (equal_false k 0 (λ e. absurd (omega (arith, e, k_is))))) (on (many 1 graph_is refl (simp x_set)) (on (gives (Flag false) (equal_false k 1 (λ e. absurd (omega (arith, e, k_is))))) (on (many 1 graph_is refl (simp x_set))
              (on (makes k 1 refl (ap (λ (s : StructShape). s.size) texts)) (on (writes_length bs Unset (raw k) (pos k) texts refl refl refl) (on (call {core = inner} (simp x_set) copied) (many 1 graph_is refl refl))))))));
        }) in
        subst (λ v. Comes p args (Calling f (x ∷ Word (pos i) ∷ Word (pos k) ∷ []) waits now) [] v waits (record now { blocks = bs ++ text_blocks (new_of xs) })) (sym (ap (value_of nothing (length bs)) h))
        (subst (λ l. Comes p args (Calling f (x ∷ Word (pos i) ∷ Word (pos k) ∷ []) waits now) [] (Ptr (length bs)) waits (record now { blocks = bs ++ l }))
        (ap (λ l. Some (part_block (Word (pos k) ∷ []) l) ∷ []) (append-nil (map Byte xs)) ∙ ap (λ l. text_blocks (l ∷ [])) h ∙ sym (ap (λ l. text_blocks (new_of l)) h)) came)

    by_length : (ys : List ℕ) → xs ≡ ys → Answer
    by_length [] h = none h
    by_length (b ∷ []) h = one_byte b h
    by_length (b ∷ c ∷ bytes) h = more_bytes b c bytes h

    pub part_comes : Answer
    part_comes = by_length xs refl
