-- Every text has exactly one reading: the scan's answer is a reading of the text, and every reading of the text is the scan's answer.
use mathlib.Core.Path.{◌≡◌, refl, ap, sym, subst, ◌∙◌}
use mathlib.Core.List.{List, [], ◌∷◌, ◌++◌, append_assoc, append-nil}
use Prim.Native.Nat.{ℕ, zero, suc, ◌+◌, ◌-◌, ◌<◌, ◌≤◌}
use native.Mathlib.Omega.{arith}
use lib.ListN.{length, length-append}
use Rattle.reader.specs.Parts.{Taken, taken, nothing}
use Rattle.reader.specs.Reading.{Begins}
use Rattle.reader.proofs.Scan.{Kind, either, on_line, scan, reading, reading_empty, reading_lines, line_begins, scan_end, scan_full, scan_line, scan_item, scan_no_item}

-- the text is these items, none of them faulty, and then the rest
pub record Before {A R : Type 0} (k : Kind A R) (text : List ℕ) (items : List A) (rest : List ℕ) : Type 0 where
  pub sound : k.Sound items
  pub split : text ≡ k.whole items ++ rest

-- no item of right form stands at the front
pub record NoItem {A R : Type 0} (k : Kind A R) (rest : List ℕ) : Type 0 where
  pub none_there : (a : A) (end : List ℕ) → k.Right a → rest ≡ k.written a ++ end → ⊥

-- the ways in which a reading ends
pub data Ends {A R : Type 0} (k : Kind A R) (text : List ℕ) : R → Type 0 where
  empty : text ≡ [] → Ends k text (k.refused k.no_line 0)
  malformed : (items : List A) (rest : List ℕ) → Before k text items rest → length items < k.limit → Begins rest → NoItem k rest → Ends k text (k.refused k.wrong_line (length items))
  too_many : (items : List A) (rest : List ℕ) → Before k text items rest → length items ≡ k.limit → Begins rest → Ends k text (k.refused k.further_line k.limit)
  not_there : (items : List A) (a : A) (end : List ℕ) → Before k text items (k.written a ++ end) → length items < k.limit → k.Right a → (k.Exists a → ⊥) → Ends k text (k.refused k.no_item (length items))
  read : (items : List A) → Before k text items [] → 1 ≤ length items → length items ≤ k.limit → Ends k text (k.all items)

begins : (x : ℕ) (s : List ℕ) → Begins (x ∷ s)
begins x s e = let z : ◌≡◌ {A = ℕ} 0 1 = cc in omega arith

-- nothing stands at the end of an empty list
no_rest : (s rest : List ℕ) → s ++ rest ≡ [] → rest ≡ []
no_rest [] rest e = e
no_rest (x ∷ s) rest e = absurd (begins x (s ++ rest) e)

module _ {A R : Type 0} (k : Kind A R) where
  -- one item more
  sound_last : (items : List A) (a : A) → k.Sound items → k.Right a → k.Exists a → k.Sound (items ++ (a ∷ []))
  sound_last [] a s w e = k.sound_more a [] w e s
  sound_last (b ∷ items) a s w e =
      let f = k.sound_each b items s in
      k.sound_more b (items ++ (a ∷ [])) f.0 f.1 (sound_last items a f.2 w e)

  whole_last : (items : List A) (a : A) (rest : List ℕ) → k.whole (items ++ (a ∷ [])) ++ rest ≡ k.whole items ++ (k.written a ++ rest)
  whole_last [] a rest = rw (k.whole_more a [], k.whole_none, append-nil (k.written a))
  whole_last (b ∷ items) a rest =
      rw (k.whole_more b (items ++ (a ∷ [])), k.whole_more b items, append_assoc (k.written b) (k.whole (items ++ (a ∷ []))) rest, append_assoc (k.written b) (k.whole items) (k.written a ++ rest), whole_last items a rest)

  before_more : (text s : List ℕ) (items : List A) (a : A) (rest : List ℕ) → Before k text items s → k.Right a × (s ≡ k.written a ++ rest) → k.Exists a → Before k text (items ++ (a ∷ [])) rest
  before_more text s items a rest b l e =
      record {
        sound = sound_last items a b.sound l.0 e;
        split = b.split ∙ ap (λ (x : List ℕ). k.whole items ++ x) l.1 ∙ sym (whole_last items a rest);
      }

  -- what is read at a front, and what stands there
  nothing_there : (s : List ℕ) → NoItem k s → k.line_in s ≡ nothing
  nothing_there s m = at (k.line_in s) refl
    where
      at : (t : Taken A) → k.line_in s ≡ t → t ≡ nothing
      at nothing e = refl
      at (taken a end) e = let l = k.line_taken s a end e in absurd (m.none_there a end l.0 l.1)

  none_read : (s : List ℕ) → k.line_in s ≡ nothing → NoItem k s
  none_read s e = record { none_there = there }
    where
      there : (a : A) (end : List ℕ) → k.Right a → s ≡ k.written a ++ end → ⊥
      there a end w q =
          let l : k.line_in s ≡ taken a end = ap k.line_in q ∙ k.line_read a end w in
          let z : ◌≡◌ {A = ℕ} 0 1 = cc in
          omega arith

  -- the scan's answer is a reading
  module _ (text : List ℕ) (some : Begins text) where
    ended : (items : List A) → Before k text items [] → length items ≤ k.limit → Ends k text (k.all items)
    ended [] b h = absurd (some (b.split ∙ rw k.whole_none))
    ended (a ∷ items) b h = read (a ∷ items) b (omega arith) h

    scan_reads : (left : ℕ) (rest : List ℕ) (items : List A) → Before k text items rest → length items + left ≡ k.limit → Ends k text (scan k left rest items)
    unfolding scan
    scan_reads zero [] items b e = ended items b (omega arith)
    scan_reads zero (x ∷ s) items b e = too_many items (x ∷ s) b (omega arith) (begins x s)
    scan_reads (suc left) [] items b e = ended items b (omega arith)
    scan_reads (suc left) (x ∷ s) items b e = by_line (k.line_in (x ∷ s)) refl (scan_reads left)
      where
        by_line : (t : Taken A) → k.line_in (x ∷ s) ≡ t → ((rest : List ℕ) (items : List A) → Before k text items rest → length items + left ≡ k.limit → Ends k text (scan k left rest items)) → Ends k text (on_line k (scan k left) items t)
        by_line nothing p f = malformed items (x ∷ s) b (omega arith) (begins x s) (none_read (x ∷ s) p)
        by_line (taken a rest) p f = by_item (k.decide a)
          where
            l : k.Right a × (x ∷ s ≡ k.written a ++ rest)
            l = k.line_taken (x ∷ s) a rest p

            by_item : (d : Dec (k.Exists a)) → Ends k text (either d (scan k left rest (items ++ (a ∷ []))) (k.refused k.no_item (length items)))
            by_item (yes q) = f rest (items ++ (a ∷ [])) (before_more text (x ∷ s) items a rest b l q) (rw (length-append items (a ∷ [])) (omega arith))
            by_item (no n) = not_there items a rest (record { sound = b.sound; split = rw (← l.1) b.split }) (omega arith) l.0 n

  pub ends : (text : List ℕ) → Ends k text (reading k text)
  ends [] = subst (λ (a : R). Ends k [] a) (sym (reading_empty k)) (empty refl)
  ends (x ∷ s) =
      subst
      (λ (a : R). Ends k (x ∷ s) a)
      (sym (reading_lines k (x ∷ s) (begins x s)))
      (scan_reads (x ∷ s) (begins x s) k.limit (x ∷ s) [] (record { sound = k.sound_none; split = rw k.whole_none }) (omega arith))

  -- every reading is the scan's answer
  scan_through : (items : List A) → k.Sound items → (n left : ℕ) (done : List A) (rest : List ℕ) → n ≡ length items + left → scan k n (k.whole items ++ rest) done ≡ scan k left rest (done ++ items)
  scan_through [] s n left done rest e =
      let q : n ≡ left = omega arith in
      rw (k.whole_none, append-nil done, q)
  scan_through (a ∷ items) s zero left done rest e = absurd (omega arith)
  scan_through (a ∷ items) s (suc n) left done rest e =
      let f = k.sound_each a items s in
      rw (k.whole_more a items, append_assoc (k.written a) (k.whole items) rest)
      (scan_item k done n (k.written a ++ (k.whole items ++ rest)) a (k.whole items ++ rest) (k.line_read a (k.whole items ++ rest) f.0) f.1 ∙
      scan_through items f.2 n left (done ++ (a ∷ [])) rest (omega arith) ∙
      rw (append_assoc done (a ∷ []) items))

  reading_after : (text : List ℕ) (items : List A) (rest : List ℕ) → Begins text → Before k text items rest → (left : ℕ) → k.limit ≡ length items + left → reading k text ≡ scan k left rest items
  reading_after text items rest t b left e =
      reading_lines k text t ∙ ap (λ (s : List ℕ). scan k k.limit s []) b.split ∙ scan_through items b.sound k.limit left [] rest e

  -- a text with a rest or an item is not empty
  begins_rest : (text : List ℕ) (items : List A) (rest : List ℕ) → Before k text items rest → Begins rest → Begins text
  begins_rest text items rest b r e = r (no_rest (k.whole items) rest (sym b.split ∙ e))

  begins_item : (items : List A) → k.Sound items → 1 ≤ length items → (rest : List ℕ) → Begins (k.whole items ++ rest)
  begins_item [] s h rest = absurd (omega arith)
  begins_item (a ∷ items) s h rest =
      line_begins k _ (ap k.line_in (rw (k.whole_more a items) (append_assoc (k.written a) (k.whole items) rest)) ∙ k.line_read a (k.whole items ++ rest) (k.sound_each a items s).0)

  pub only : {text : List ℕ} {a : R} → Ends k text a → a ≡ reading k text
  only (empty e) = sym (ap (reading k) e ∙ reading_empty k)
  only {text} (malformed items rest b h r m) =
      let left = k.limit - suc (length items) in
      sym (reading_after text items rest (begins_rest text items rest b r) b (suc left) (omega arith) ∙ scan_line k items left rest nothing r (nothing_there rest m))
  only {text} (too_many items rest b h r) = sym (reading_after text items rest (begins_rest text items rest b r) b 0 (omega arith) ∙ scan_full k items rest r)
  only {text} (not_there items a end b h w n) =
      let left = k.limit - suc (length items) in
      let e = k.line_read a end w in
      let r = begins_rest text items (k.written a ++ end) b (line_begins k (k.written a ++ end) e) in
      sym (reading_after text items (k.written a ++ end) r b (suc left) (omega arith) ∙ scan_no_item k items left (k.written a ++ end) a end e n)
  only {text} (read items b l h) =
      let t : Begins text = λ e. begins_item items b.sound l [] (sym b.split ∙ e) in
      sym (reading_after text items [] t b (k.limit - length items) (omega arith) ∙ scan_end k items (k.limit - length items))
