-- The graph that gives the length of an index: a length is doubled while it is too small.
use Rattle.std.proofs.Common.{◌≡◌, ◌<◌, ◌≤◌, ℕ, ◌+◌, ◌^◌, Bool, true, false, List, [], ◌∷◌, Some, pos, refl, arith}
use Rattle.std.specs.Prelude.{slice_get, nat_lt}
use Rattle.std.proofs.lemmas.Bool.Decides.{nat_tests}
use Rattle.csub_tree.specs.State.{Value, Unset, Word, Flag, Core}
use Rattle.ll_code.specs.State.{Frame, State, Calling, At}
use Rattle.ll_code.specs.declared.program.LlProgram.{LlProgram}
use Rattle.ll_leads.proofs.Joined.{leads_then, leads_more}
use Rattle.ll_leads.proofs.Ways.{many, enter, gives}
use Rattle.ll_texts.proofs.Numbers.{adds, less_true, less_false}
use Rattle.list_shape.specs.Shapes.{gives as gives_back}
use Rattle.rtyper_dict.specs.Indexing.{size, size_starts, size_enough, size_greatest, size_doubles, size_blocks}
use Rattle.dict_laws.specs.Masks.{Doubled, enough, greatest, again}
use Rattle.object_laws.proofs.Calling.{Returns}

module _ (p : LlProgram) (args : List (List ℕ)) (f : ℕ) (graph : slice_get p.graphs f ≡ Some size) (waits : List Frame) (core : Core) where
  abbrev asks : ℕ → ℕ → Value → Value → Value → State
  asks least s t0 t3 t4 = At size_enough.ops size_enough.exit waits (record core { function = f; block = 1; at = 0; vars = t0 ∷ Word (pos least) ∷ Word (pos s) ∷ t3 ∷ t4 ∷ [] })

  abbrev asks_more : ℕ → ℕ → Value → Value → Value → State
  asks_more least s t0 t3 t4 = At size_greatest.ops size_greatest.exit waits (record core { function = f; block = 2; at = 0; vars = t0 ∷ Word (pos least) ∷ Word (pos s) ∷ t3 ∷ t4 ∷ [] })

  -- it is long enough
  ends : (least s : ℕ) (t0 t3 t4 : Value) → least ≤ s → Returns p args 0 (asks least s t0 t3 t4) (Word (pos s)) waits core
  unfolding size size_starts size_enough size_greatest size_doubles size_blocks gives_back
  ends least s t0 t3 t4 h = record {
    end = _;
    same = refl;
    leads = leads_more (0 + 0) 0 (omega arith) (leads_then (gives (Flag false) (less_false s least h)) (many 2 graph refl refl));
  }

  -- it is the greatest
  is_greatest : (least s : ℕ) (t0 t3 t4 : Value) → 2 ^ 62 ≤ s → Returns p args 0 (asks_more least s t0 t3 t4) (Word (pos s)) waits core
  unfolding size size_starts size_enough size_greatest size_doubles size_blocks gives_back
  is_greatest least s t0 t3 t4 h = record {
    end = _;
    same = refl;
    leads = leads_more (0 + 0) 0 (omega arith) (leads_then (gives (Flag false) (less_false s 4611686018427387904 (omega (arith, h)))) (many 2 graph refl refl));
  }

  goes_on : (least s size : ℕ) (t0 t3 t4 : Value) → s < least → ((t3 : Value) → Returns p args 0 (asks_more least s t0 t3 t4) (Word (pos size)) waits core) → Returns p args 0 (asks least s t0 t3 t4) (Word (pos size)) waits core
  unfolding size size_starts size_enough size_greatest size_doubles size_blocks gives_back
  goes_on least s size t0 t3 t4 h next = record {
    end = (next (Flag true)).end;
    same = (next (Flag true)).same;
    leads = leads_more (0 + (0 + 0)) 0 (omega arith) (leads_then (gives (Flag true) (less_true s least h)) (leads_then (many 1 graph refl refl) (next (Flag true)).leads));
  }

  doubles : (least s size : ℕ) (t0 t3 t4 : Value) → s < 2 ^ 62 → ((t3 t4 : Value) → Returns p args 0 (asks least (s + s) t0 t3 t4) (Word (pos size)) waits core) → Returns p args 0 (asks_more least s t0 t3 t4) (Word (pos size)) waits core
  unfolding size size_starts size_enough size_greatest size_doubles size_blocks gives_back
  doubles least s size t0 t3 t4 h next = record {
    end = (next (Flag true) (Word (pos (s + s)))).end;
    same = (next (Flag true) (Word (pos (s + s)))).same;
    leads = leads_more (0 + (0 + (0 + (0 + 0)))) 0 (omega arith)
        (leads_then (gives (Flag true) (less_true s 4611686018427387904 (omega (arith, h))))
        (leads_then (many 1 graph refl refl)
        (leads_then (gives (Word (pos (s + s))) (adds s s (omega (arith, h))))
        (leads_then (many 1 graph refl refl) (next (Flag true) (Word (pos (s + s)))).leads))));
  }

  is_less : (m n : ℕ) → nat_lt m n ≡ true → m < n
  is_less m n h = grind (arith, nat_tests, h)

  no_less : (m n : ℕ) → nat_lt m n ≡ false → n ≤ m
  no_less m n h = grind (arith, nat_tests, h)

  loops : (least s size : ℕ) (t0 t3 t4 : Value) → Doubled least s size → Returns p args 0 (asks least s t0 t3 t4) (Word (pos size)) waits core
  loops least s _ t0 t3 t4 (enough _ h) = ends least s t0 t3 t4 h
  loops least s _ t0 t3 t4 (greatest _ h) = by (nat_lt s least) refl
    where
      by : (c : Bool) → nat_lt s least ≡ c → Returns p args 0 (asks least s t0 t3 t4) (Word (pos s)) waits core
      by true q = goes_on least s s t0 t3 t4 (is_less s least q) (λ t3. is_greatest least s t0 t3 t4 h)
      by false q = ends least s t0 t3 t4 (no_less s least q)
  loops least s size t0 t3 t4 (again _ _ h k rest) = goes_on least s size t0 t3 t4 h (λ t3. doubles least s size t0 t3 t4 k (λ t3 t4. loops least (s + s) size t0 t3 t4 rest))

  -- the length for so many places
  pub sized : (places length : ℕ) → places < 2 ^ 62 → Doubled (places + places) 2 length → Returns p args 0 (Calling f (Word (pos places) ∷ []) waits core) (Word (pos length)) waits core
  unfolding size size_starts size_enough size_greatest size_doubles size_blocks gives_back
  sized places length h doubled =
      let it = loops (places + places) 2 length (Word (pos places)) Unset Unset doubled in
      record {
        end = it.end;
        same = it.same;
        leads = leads_more (0 + (0 + (0 + 0))) 0 (omega arith)
            (leads_then (enter graph refl)
            (leads_then (gives (Word (pos (places + places))) (adds places places (omega (arith, h))))
            (leads_then (many 1 graph refl refl) it.leads)));
      }
