-- Memory with the list of parts represents the heap with it.
use Rattle.std.proofs.Common.{◌≡◌, ◌<◌, ◌≤◌, ℕ, suc, ◌+◌, ◌-◌, ◌*◌, ◌^◌, Bool, true, false, List, [], ◌∷◌, ◌++◌, length, map, Option, Some, pos, refl, sym, ap, ◌∙◌, subst, arith, length-append}
use Rattle.std.specs.Prelude.{slice_get, nat_eq, cond, sum_by}
use Rattle.std.proofs.lemmas.List.{length-map}
use Rattle.csub_tree.specs.State.{Value, Word, Byte, Ptr, Static, Block, Core}
use Rattle.ll_code.specs.State.{Calling}
use Rattle.ll_code.specs.declared.program.LlProgram.{LlProgram}
use Rattle.ll_build.specs.declared.needs.Numbers.{Numbers}
use Rattle.ll_texts.specs.Follows.{text_blocks}
use Rattle.ll_texts.specs.Texts.{AreBytes, IsText, text_block}
use Rattle.rpy_tree.specs.Value.{Heap, Listed, Text}
use Rattle.rtyper_layout.specs.declared.layout.Layout.{Layout}
use Rattle.rtyper_layout.specs.Layout.{is_list}
use Rattle.rtyper_layout.specs.Types.{type_seen, word}
use Rattle.rtyper_data.specs.declared.small.Listed.TheVariants.{Make as MakeList, Part}
use Rattle.rtyper_data.specs.declared.small.Small.TheVariants as small
use Rattle.rtyper_data.specs.Finding.{small_number}
use Rattle.ann_element.specs.declared.element.Element.{Element}
use Rattle.list_laws.proofs.Copying.{array_with}
use Rattle.object_laws.specs.Done.{HasLayout}
use Rattle.object_laws.specs.Ghost.{Ghost, use_of, Stays, ListOf}
use Rattle.object_laws.specs.Known.{Known}
use Rattle.object_laws.specs.Represents.{Represents, head_block, array_block}
use Rattle.object_laws.specs.Values.{EachHolds, Empty, More, Plain, Stands, text}
use Rattle.object_laws.proofs.Growing.{use_grows}
use Rattle.object_laws.proofs.Made.{found_more, get_first}
use Rattle.conversion_laws.proofs.Turned.{byte_text}
use Rattle.dict_find_laws.proofs.Many.{MadeMany}
use Rattle.split_laws.specs.Asked.{HasSplit}
use Rattle.split_laws.specs.Splitting.{AreTexts}
use Rattle.split_laws.proofs.Listed.{text_use_is, texts_grown, texts_listed, with_texts}
use Rattle.split_laws.proofs.Parts.{nothing}
use Rattle.split_laws.proofs.Pieces.{occurs, occurs_few, pieces, pieces_counted, pieces_long}
use Rattle.split_laws.proofs.Splits.{cost, long_parts, split_gives, values_from, values_long}

-- ---- parts are strings

abbrev Fits : List ℕ → Type 0
Fits t = (length t < 2 ^ 63) × AreBytes t

abbrev AllFit : List (List ℕ) → Type 0
AllFit [] = Unit {0}
AllFit (t ∷ ts) = Fits t × AllFit ts

bytes_more : (cur : List ℕ) (c : ℕ) → AreBytes cur → c < 256 → AreBytes (cur ++ c ∷ [])
bytes_more [] c fine h = (h, tt)
bytes_more (d ∷ cur) c fine h = (fine.0, bytes_more cur c fine.1 h)

pieces_fit : (b : ℕ) (cur rest : List ℕ) → AreBytes cur → AreBytes rest → length cur + length rest < 2 ^ 63 → AllFit (pieces b cur rest)
pieces_fit b cur [] fine more short = ((omega (arith, short), fine), tt)
pieces_fit b cur (c ∷ rest) fine more short =
    by (pieces_fit b [] rest tt more.1 (omega (arith, short))) (pieces_fit b (cur ++ c ∷ []) rest (bytes_more cur c fine more.0) more.1 (let q = length-append cur (c ∷ []) in omega (arith, q, short))) (nat_eq b c)
  where
    by : AllFit (pieces b [] rest) → AllFit (pieces b (cur ++ c ∷ []) rest) → (t : Bool) → AllFit (cond t (cur ∷ pieces b [] rest) (pieces b (cur ++ c ∷ []) rest))
    by here on true = ((omega (arith, short), fine), here)
    by here on false = on

long_few : (ts : List (List ℕ)) → length (long_parts ts) ≤ length ts
long_few [] = omega arith
long_few ([] ∷ ts) = (let h : length (long_parts ts) ≤ length ts = long_few ts in omega (arith, h))
long_few ((c ∷ []) ∷ ts) = (let h : length (long_parts ts) ≤ length ts = long_few ts in omega (arith, h))
long_few ((c ∷ d ∷ t) ∷ ts) = (let h : length (long_parts ts) ≤ length ts = long_few ts in omega (arith, h))

module _ (p : LlProgram) (args : List (List ℕ)) (layout : Layout) (numbers : Numbers) (raised : ℕ → Value) (known : Known) (n f : ℕ) (core : Core) (g : Ghost) (heap : Heap) (left : ℕ) (has : HasSplit p layout numbers raised core n f) (structs : HasLayout p layout) (struct : is_list layout n ≡ true)
    (item : Element) (item_is : known.items n ≡ Some item) (texts : AreTexts layout item) (r : Represents layout known g heap left core.blocks core.statics)
    (x : Value) (bytes : List ℕ) (b : ℕ) (t : IsText core.blocks core.statics x bytes) (short : length bytes + 1 < 2 ^ 63) (steps : left ≡ core.steps) where
  abbrev all : List (List ℕ)
  all = pieces b [] bytes

  abbrev k : ℕ
  k = length all

  abbrev base : ℕ
  base = length core.blocks

  abbrev ghost : Ghost
  ghost = with_texts g n (length heap) (long_parts all)

  abbrev none : Value
  none = nothing p args layout numbers raised (small_number (small.Listed Part) (small_number (small.Listed (MakeList n)) has.made).1).0 core has.parts structs.plain.text

  held : (y : Value) (u : List ℕ) → Fits u → use_of ghost y ≡ Some (Stays (text_block u)) → Stands ghost (type_seen layout (Some item)) y (Text u)
  held y u fine is = subst (λ ty. Stands ghost ty y (Text u)) (sym texts.typed) (text y u (record { is = is; short = fine.0; small = fine.1 }))

  grows : (y : Value) (u : List ℕ) → use_of g y ≡ Some (Stays (text_block u)) → use_of ghost y ≡ Some (Stays (text_block u))
  grows y u h = use_grows (texts_grown g n (length heap) (long_parts all)) y _ h

  none_used : use_of g none ≡ Some (Stays (text_block []))
  none_used = r.settled none (text_block []) (found_more [] core.blocks core.statics none (text_block []) has.parts.nothing) refl

  byte_used : (c : ℕ) → c < 256 → use_of g (Static (c + 1)) ≡ Some (Stays (text_block (c ∷ [])))
  byte_used c h = (byte_text has.parts.letter c h r).is

  each : (ts : List (List ℕ)) (j next : ℕ) → next ≡ base + 2 + j → AllFit ts → ((m : ℕ) (u : List ℕ) → slice_get (long_parts ts) m ≡ Some u → use_of ghost (Ptr (base + 2 + (j + m))) ≡ Some (Stays (text_block u))) → EachHolds layout known ghost (Some item) (values_from none next ts) (map Text ts)
  each [] j next at fine used = Empty
  each ([] ∷ ts) j next at fine used = More (Plain texts.plain (held none [] fine.0 (grows none [] none_used))) (each ts j (next + 0) (omega (arith, at)) fine.1 used)
  each ((c ∷ []) ∷ ts) j next at fine used = More (Plain texts.plain (held (Static (c + 1)) (c ∷ []) fine.0 (grows (Static (c + 1)) (c ∷ []) (byte_used c fine.0.1.0)))) (each ts j (next + 0) (omega (arith, at)) fine.1 used)
  each ((c ∷ d ∷ u) ∷ ts) j next at fine used =
      More (Plain texts.plain (held (Ptr next) (c ∷ d ∷ u) fine.0 (ap (λ m. use_of ghost (Ptr m)) (let e : next ≡ base + 2 + (j + 0) = omega (arith, at) in e) ∙ used 0 (c ∷ d ∷ u) refl)))
      (each ts (j + 1) (next + 1) (omega (arith, at)) fine.1 (λ m v e. ap (λ m. use_of ghost (Ptr (base + 2 + m))) (let q : j + 1 + m ≡ j + suc m = omega arith in q) ∙ used (suc m) v e))

  abbrev items : List Value
  items = values_from none (base + 2 + 0) all

  abbrev blocks : List (Option Block)
  blocks = core.blocks ++ Some (array_with (word (n + 1)) (Word (pos k) ∷ []) items) ∷ Some (head_block n k (Ptr base)) ∷ text_blocks (long_parts all)

  k_is : k ≡ occurs b bytes + 1
  k_is = pieces_counted b [] bytes

  items_long : length items ≡ k
  items_long = values_long none (base + 2 + 0) all

  same_blocks : core.blocks ++ Some (array_block n items) ∷ Some (head_block n (length (map Text all)) (Ptr base)) ∷ text_blocks (long_parts all) ≡ blocks
  same_blocks = ap (λ q. core.blocks ++ Some (array_with (word (n + 1)) (Word (pos q) ∷ []) items) ∷ Some (head_block n (length (map Text all)) (Ptr base)) ∷ text_blocks (long_parts all)) items_long
      ∙ ap (λ q. core.blocks ++ Some (array_with (word (n + 1)) (Word (pos k) ∷ []) items) ∷ Some (head_block n q (Ptr base)) ∷ text_blocks (long_parts all)) (length-map all Text)

  abbrev all_paid : ℕ
  all_paid = cost p args layout numbers raised n f core left has structs struct x bytes b t short steps

  -- it is the cost of the operation
  pub cost_is : all_paid ≡ 1 + 2 * k + sum_by length all
  cost_is = (let q = pieces_long b [] bytes in let h = occurs_few b bytes in omega (arith, q, h))

  represents : all_paid ≤ left → Represents layout known ghost (heap ++ Listed (map Text all) ∷ []) (left - all_paid) blocks core.statics
  represents enough = subst (λ l. Represents layout known ghost (heap ++ Listed (map Text all) ∷ []) (left - all_paid) l core.statics) same_blocks
      (texts_listed r n (left - all_paid) (long_parts all) items (map Text all) (omega arith) struct
      (subst (λ s. EachHolds layout known ghost s items (map Text all)) (sym item_is) (each all 0 (base + 2 + 0) refl (pieces_fit b [] bytes tt t.small (omega (arith, short))) (λ m u h. ap (λ m. use_of ghost (Ptr (base + 2 + m))) (let e : 0 + m ≡ m = omega arith in e) ∙ text_use_is r n (left - all_paid) (long_parts all) m u h)))
      (let q = items_long in let s = r.few in omega (arith, q, s, enough)) (let q = length-map all Text in let s = r.few in omega (arith, q, s, enough)) (structs.lists_apart n struct))

  pub split_made : all_paid ≤ left → MadeMany p args layout known g heap (left - all_paid) n (map Text all) (2 + k) (k + 1) (λ waits. Calling f (x ∷ Byte b ∷ []) waits core) core
  split_made enough = record {
    blocks = blocks;
    head = Ptr (base + 1);
    ghost = ghost;
    grown = texts_grown g n (length heap) (long_parts all);
    stands = represents enough;
    home = get_first g.homes [] (record { sort = ListOf n; head = Ptr (length g.blocks + 1) }) (length heap) (sym r.homes) ∙ ap (λ q. Some (record { sort = ListOf n; head = Ptr (q + 1) })) r.made;
    set = refl;
    few = (let a = length-append core.blocks (Some (array_with (word (n + 1)) (Word (pos k) ∷ []) items) ∷ Some (head_block n k (Ptr base)) ∷ text_blocks (long_parts all)) in let c : length (text_blocks (long_parts all)) ≡ length (long_parts all) = length-map (long_parts all) _ in let l = long_few all in omega (arith, a, c, l));
    returns = λ waits. split_gives p args layout numbers raised n f core left has structs struct x bytes b t short steps waits enough;
  }
