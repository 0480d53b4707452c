-- The loop that reads many files, one after another.
use Rattle.std.proofs.Common.{◌≡◌, ℕ, suc, ◌+◌, ◌<◌, ◌≤◌, List, [], ◌∷◌, ◌++◌, Option, Some, None, Vec, length, refl, ap, sym, ◌∙◌, subst, append_assoc, append-nil, arith, IfSome, inl, inr, map, take, drop, get_or, String, Ok, Err}
use Rattle.std.specs.String.{string_bytes}
use Rattle.std.proofs.Math.Seq.{take-suc}
use Rattle.std.proofs.lemmas.List.{map-append, take-append-drop}
use Rattle.session_outside.specs.declared.shelf.ShelfRefusal.{ShelfRefusal}
use Rattle.session_outside.specs.declared.shelf.ShelfRefusal.TheVariants.{Failed, NoMemory}
use Rattle.std.specs.declared.alloc.Global.{Global}
use Rattle.session_outside.specs.Shelf.{TurnsToFront, TurnsToNext, TurnsToRead, TurnsAtMost, opened}
use Rattle.session_outside.specs.Loops.{AreLeft, AreWholeBehind, GoesOn, HasAtMost, HasLeft, HaveAtMost, IsWholeBehind, ReadsBehind}

-- the bytes of the files of these names, after n
pub total : (List ℕ → List ℕ) → ℕ → List (List ℕ) → ℕ
total held before [] = before
total held before (name ∷ names) = total held (before + length (held name)) names

-- where the shelf tells, the files of these names were read, and n bytes are left
abbrev pub Reading : Option (List ℕ → List ℕ) → ℕ → List (List ℕ) → Option ℕ → List (Option (Vec ℕ Global)) → Type 0
Reading None most done left reads = Unit {0}
Reading (Some held) most done left reads = AreLeft most (total held 0 done) left × AreWholeBehind most held 0 done reads

-- the files of these names were all read
abbrev pub AreRead : List (List ℕ) → List (Option (Vec ℕ Global)) → Type 0
AreRead [] [] = Unit {0}
AreRead [] (read ∷ reads) = ⊥
AreRead (name ∷ names) [] = ⊥
AreRead (name ∷ names) (None ∷ reads) = ⊥
AreRead (name ∷ names) (Some bytes ∷ reads) = AreRead names reads

-- of one of these names none was read
abbrev pub IsOneLong : List (List ℕ) → List (Option (Vec ℕ Global)) → Type 0
IsOneLong [] reads = ⊥
IsOneLong (name ∷ names) [] = ⊥
IsOneLong (name ∷ names) (None ∷ reads) = Unit {0}
IsOneLong (name ∷ names) (Some bytes ∷ reads) = IsOneLong names reads

-- bytes are left exactly where all were read
abbrev pub LeftTells : Option ℕ → List (List ℕ) → List (Option (Vec ℕ Global)) → Type 0
LeftTells None names reads = IsOneLong names reads
LeftTells (Some left) names reads = AreRead names reads

-- a shelf in the middle of these names
pub record IsReadingAll (faults_then faults_now : ℕ) (names_then names_now : List (List ℕ)) (held_then held_now : Option (List ℕ → List ℕ)) (most : ℕ) (done : List (List ℕ)) (left : Option ℕ) (reads : List (Option (Vec ℕ Global))) : Type 0 where
  pub counted : faults_now ≡ faults_then
  pub names : names_now ≡ names_then ++ opened done reads
  pub tells : LeftTells left done reads
  pub same : held_now ≡ held_then
  pub few : IfSome left (λ l. l ≤ most)
  pub within : HaveAtMost most reads
  pub read : Reading held_then most done left reads

-- one more file, after those that were read
total-more : (held : List ℕ → List ℕ) (before : ℕ) (done : List (List ℕ)) (name : List ℕ) → total held before (done ++ name ∷ []) ≡ total held before done + length (held name)
unfolding total
total-more held before [] name = refl
total-more held before (d ∷ ds) name = total-more held (before + length (held d)) ds name

whole-more : (most : ℕ) (held : List ℕ → List ℕ) (before : ℕ) (done : List (List ℕ)) (name : List ℕ) (reads : List (Option (Vec ℕ Global))) (read : Option (Vec ℕ Global)) → AreWholeBehind most held before done reads → IsWholeBehind most (total held before done) (held name) read → AreWholeBehind most held before (done ++ name ∷ []) (reads ++ read ∷ [])
unfolding total
whole-more most held before [] name [] read all one = (one, tt)
whole-more most held before [] name (r ∷ rs) read all one = absurd all
whole-more most held before (d ∷ ds) name [] read all one = absurd all
whole-more most held before (d ∷ ds) name (r ∷ rs) read all one = (all.0, whole-more most held (before + length (held d)) ds name rs read all.1 one)

at-most-more : (most : ℕ) (reads : List (Option (Vec ℕ Global))) (read : Option (Vec ℕ Global)) → HaveAtMost most reads → HasAtMost most read → HaveAtMost most (reads ++ read ∷ [])
at-most-more most [] read all one = (one, tt)
at-most-more most (r ∷ rs) read all one = (all.0, at-most-more most rs read all.1 one)

at-most-left : (most : ℕ) (left : Option ℕ) (read : Option (Vec ℕ Global)) → IfSome left (λ l. l ≤ most) → HasLeft left read → HasAtMost most read
at-most-left most left None few has = tt
at-most-left most None (Some bytes) few has = absurd has
at-most-left most (Some left) (Some bytes) few has = omega (arith, few, has)

reading-more : (held_then held_now : Option (List ℕ → List ℕ)) (most : ℕ) (done : List (List ℕ)) (left left_now : Option ℕ) (reads : List (Option (Vec ℕ Global))) (name : List ℕ) (read : Option (Vec ℕ Global)) → held_now ≡ held_then → Reading held_then most done left reads
    → ((before : ℕ) → AreLeft most before left → ReadsBehind held_now name most before read)
    → ((before : ℕ) (file : List ℕ) → AreLeft most before left → IsWholeBehind most before file read → AreLeft most (before + length file) left_now)
    → Reading held_then most (done ++ name ∷ []) left_now (reads ++ read ∷ [])
reading-more None held_now most done left left_now reads name read same reading is behind = tt
reading-more (Some held) held_now most done left left_now reads name read same reading is behind =
    let P : Option (List ℕ → List ℕ) → Type 0 = λ h. ReadsBehind h name most (total held 0 done) read in
    let one : IsWholeBehind most (total held 0 done) (held name) read = subst P same (is (total held 0 done) reading.0) in
    let L : ℕ → Type 0 = λ n. AreLeft most n left_now in
    (subst L (sym (total-more held 0 done name)) (behind (total held 0 done) (held name) reading.0 one), whole-more most held 0 done name reads read reading.1 one)

-- after a file of which none was read no other is opened
opened-long : (done : List (List ℕ)) (name : List ℕ) (reads : List (Option (Vec ℕ Global))) (read : Option (Vec ℕ Global)) → IsOneLong done reads → opened (done ++ name ∷ []) (reads ++ read ∷ []) ≡ opened done reads
opened-long [] name reads read long = absurd long
opened-long (d ∷ ds) name [] read long = absurd long
opened-long (d ∷ ds) name (None ∷ rs) read long = refl
opened-long (d ∷ ds) name (Some b ∷ rs) read long = ap (λ (ns : List (List ℕ)). d ∷ ns) (opened-long ds name rs read long)

long-more : (done : List (List ℕ)) (name : List ℕ) (reads : List (Option (Vec ℕ Global))) (read : Option (Vec ℕ Global)) → IsOneLong done reads → IsOneLong (done ++ name ∷ []) (reads ++ read ∷ [])
long-more [] name reads read long = absurd long
long-more (d ∷ ds) name [] read long = absurd long
long-more (d ∷ ds) name (None ∷ rs) read long = tt
long-more (d ∷ ds) name (Some b ∷ rs) read long = long-more ds name rs read long

-- after files that were all read the next is opened
pub opened-all : (done : List (List ℕ)) (reads : List (Option (Vec ℕ Global))) → AreRead done reads → opened done reads ≡ done
opened-all [] reads all = refl
opened-all (d ∷ ds) [] all = absurd all
opened-all (d ∷ ds) (None ∷ rs) all = absurd all
opened-all (d ∷ ds) (Some b ∷ rs) all = ap (λ (ns : List (List ℕ)). d ∷ ns) (opened-all ds rs all)

opened-next : (done : List (List ℕ)) (name : List ℕ) (reads : List (Option (Vec ℕ Global))) (read : Option (Vec ℕ Global)) → AreRead done reads → opened (done ++ name ∷ []) (reads ++ read ∷ []) ≡ opened done reads ++ name ∷ []
opened-next [] name [] None all = refl
opened-next [] name [] (Some b) all = refl
opened-next [] name (r ∷ rs) read all = absurd all
opened-next (d ∷ ds) name [] read all = absurd all
opened-next (d ∷ ds) name (None ∷ rs) read all = absurd all
opened-next (d ∷ ds) name (Some b ∷ rs) read all = ap (λ (ns : List (List ℕ)). d ∷ ns) (opened-next ds name rs read all)

read-more : (done : List (List ℕ)) (name : List ℕ) (reads : List (Option (Vec ℕ Global))) (bytes : Vec ℕ Global) → AreRead done reads → AreRead (done ++ name ∷ []) (reads ++ Some bytes ∷ [])
read-more [] name [] bytes all = tt
read-more [] name (r ∷ rs) bytes all = absurd all
read-more (d ∷ ds) name [] bytes all = absurd all
read-more (d ∷ ds) name (None ∷ rs) bytes all = absurd all
read-more (d ∷ ds) name (Some b ∷ rs) bytes all = read-more ds name rs bytes all

read-long : (done : List (List ℕ)) (name : List ℕ) (reads : List (Option (Vec ℕ Global))) → AreRead done reads → IsOneLong (done ++ name ∷ []) (reads ++ None ∷ [])
read-long [] name [] all = tt
read-long [] name (r ∷ rs) all = absurd all
read-long (d ∷ ds) name [] all = absurd all
read-long (d ∷ ds) name (None ∷ rs) all = absurd all
read-long (d ∷ ds) name (Some b ∷ rs) all = read-long ds name rs all

-- the names that are opened are some of all, from the first on
pub opened-front : (names : List (List ℕ)) (reads : List (Option (Vec ℕ Global))) → (rest : List (List ℕ)) × (names ≡ opened names reads ++ rest)
opened-front [] reads = ([], refl)
opened-front (n ∷ ns) [] = (n ∷ ns, refl)
opened-front (n ∷ ns) (None ∷ rs) = (ns, refl)
opened-front (n ∷ ns) (Some b ∷ rs) =
    let h = opened-front ns rs in
    (h.0, ap (λ (l : List (List ℕ)). n ∷ l) h.1)

-- the names that were turned to after one more file
names-next : (names_then names_before names_now : List (List ℕ)) (done : List (List ℕ)) (left : Option ℕ) (reads : List (Option (Vec ℕ Global))) (name : List ℕ) (read : Option (Vec ℕ Global)) → LeftTells left done reads → names_before ≡ names_then ++ opened done reads
    → TurnsToNext {T = Option (Vec ℕ Global)} left names_before names_now name (Ok read) → names_now ≡ names_then ++ opened (done ++ name ∷ []) (reads ++ read ∷ [])
names-next names_then names_before names_now done None reads name read tells before turned =
    turned ∙ before ∙ ap (λ (ns : List (List ℕ)). names_then ++ ns) (sym (opened-long done name reads read tells))
names-next names_then names_before names_now done (Some left) reads name read tells before turned =
    turned ∙ ap (λ (ns : List (List ℕ)). ns ++ name ∷ []) before ∙ append_assoc names_then (opened done reads) (name ∷ []) ∙ ap (λ (ns : List (List ℕ)). names_then ++ ns) (sym (opened-next done name reads read tells))

tells-next : (done : List (List ℕ)) (left left_now : Option ℕ) (reads : List (Option (Vec ℕ Global))) (name : List ℕ) (read : Option (Vec ℕ Global)) → LeftTells left done reads → GoesOn left read left_now → LeftTells left_now (done ++ name ∷ []) (reads ++ read ∷ [])
tells-next done None left_now reads name read tells on =
    subst (λ (l : Option ℕ). LeftTells l (done ++ name ∷ []) (reads ++ read ∷ [])) (sym on) (long-more done name reads read tells)
tells-next done (Some left) left_now reads name None tells on =
    subst (λ (l : Option ℕ). LeftTells l (done ++ name ∷ []) (reads ++ None ∷ [])) (sym on) (read-long done name reads tells)
tells-next done (Some left) None reads name (Some b) tells on = absurd on
tells-next done (Some left) (Some now) reads name (Some b) tells on = read-more done name reads b tells

-- the loop goes on after a file
pub IsReadingAll-more : (faults_then faults_before faults_now : ℕ) (names_then names_before names_now : List (List ℕ)) (held_then held_before held_now : Option (List ℕ → List ℕ)) (most : ℕ) (done : List (List ℕ)) (left left_now : Option ℕ) (reads : List (Option (Vec ℕ Global))) (name : List ℕ) (read : Option (Vec ℕ Global))
    → IsReadingAll faults_then faults_before names_then names_before held_then held_before most done left reads
    → faults_now ≡ faults_before → TurnsToNext {T = Option (Vec ℕ Global)} left names_before names_now name (Ok read) → held_now ≡ held_before → HasLeft left read → GoesOn left read left_now
    → ((before : ℕ) → AreLeft most before left → ReadsBehind held_before name most before read)
    → IfSome left_now (λ l. l ≤ most)
    → ((before : ℕ) (file : List ℕ) → AreLeft most before left → IsWholeBehind most before file read → AreLeft most (before + length file) left_now)
    → IsReadingAll faults_then faults_now names_then names_now held_then held_now most (done ++ name ∷ []) left_now (reads ++ read ∷ [])
IsReadingAll-more faults_then faults_before faults_now names_then names_before names_now held_then held_before held_now most done left left_now reads name read reading counted named same has on is few behind = record {
  counted = counted ∙ reading.counted;
  names = names-next names_then names_before names_now done left reads name read reading.tells reading.names named;
  tells = tells-next done left left_now reads name read reading.tells on;
  same = same ∙ reading.same;
  few = few;
  within = at-most-more most reads read reading.within (at-most-left most left read reading.few has);
  read = reading-more held_then held_before most done left left_now reads name read reading.same reading.read is behind;
}

-- a refusal at the next name leaves a front of the names
pub front-refused : (names_then names_before names_now : List (List ℕ)) (done rest : List (List ℕ)) (name : List ℕ) → names_before ≡ names_then ++ done → TurnsAtMost names_before names_now name → TurnsToFront names_then names_now (done ++ name ∷ rest)
front-refused names_then names_before names_now done rest name before turned = elim turned [
  | inl stays ↦ (done, name ∷ rest, refl, stays ∙ before)
  | inr goes ↦ (done ++ name ∷ [], rest, sym (append_assoc done (name ∷ []) rest), goes ∙ ap (λ (ns : List (List ℕ)). ns ++ name ∷ []) before ∙ append_assoc names_then done (name ∷ []))
]

-- a refusal leaves the names, or adds this one
pub refused_at : (T : Type 0) (before now : List (List ℕ)) (name : List ℕ) (why : ShelfRefusal) → TurnsToRead {T = T} before now name (Err why) → TurnsAtMost before now name
refused_at T before now name Failed turned = inr turned
refused_at T before now name NoMemory turned = turned

-- ---- names as texts

abbrev pub Names : Type 0
Names = List (String Global)

-- the name in this place is after those in front of it
pub names_more : (xs : Names) (k : ℕ) (x : String Global) → k < length xs → x ≡ get_or xs k x → map string_bytes (take (k + 1) xs) ≡ map string_bytes (take k xs) ++ string_bytes x ∷ []
names_more xs k x lt is =
    let one : suc k ≡ k + 1 = omega arith in
    let cut : take (k + 1) xs ≡ take k xs ++ x ∷ [] = sym (ap (λ (n : ℕ). take n xs) one) ∙ take-suc xs k x lt ∙ ap (λ (y : String Global). take k xs ++ y ∷ []) (sym is) in
    ap (map string_bytes) cut ∙ map-append string_bytes (take k xs) (x ∷ [])

-- all names are those up to this one, and then others
pub names_split : (xs : Names) (k : ℕ) (x : String Global) → k < length xs → x ≡ get_or xs k x → map string_bytes xs ≡ map string_bytes (take k xs) ++ string_bytes x ∷ map string_bytes (drop (k + 1) xs)
names_split xs k x lt is =
    ap (map string_bytes) (sym (take-append-drop (k + 1) xs)) ∙ map-append string_bytes (take (k + 1) xs) (drop (k + 1) xs)
    ∙ ap (λ (l : List (List ℕ)). l ++ map string_bytes (drop (k + 1) xs)) (names_more xs k x lt is)
    ∙ append_assoc (map string_bytes (take k xs)) (string_bytes x ∷ []) (map string_bytes (drop (k + 1) xs))

-- nothing is read yet
pub IsReadingAll-start : (faults : ℕ) (names : List (List ℕ)) (held : Option (List ℕ → List ℕ)) (most : ℕ) (reads : List (Option (Vec ℕ Global))) → reads ≡ [] → IsReadingAll faults faults names names held held most [] (Some most) reads
unfolding total
IsReadingAll-start faults names held most reads none =
    let P : List (Option (Vec ℕ Global)) → Type 0 = λ rs. IsReadingAll faults faults names names held held most [] (Some most) rs in
    subst P (sym none) (record {
      counted = refl;
      names = sym (append-nil names);
      tells = tt;
      same = refl;
      few = omega arith;
      within = tt;
      read = start held;
    })
  where
    start : (h : Option (List ℕ → List ℕ)) → Reading h most [] (Some most) []
    start None = tt
    start (Some h) = (omega arith, tt)

-- some of these names were turned to, where the next call was refused
front_at : (names_then names_before names_now : List (List ℕ)) (xs : Names) (k : ℕ) (x : String Global) (name : List ℕ) → k < length xs → x ≡ get_or xs k x → name ≡ string_bytes x
    → names_before ≡ names_then ++ map string_bytes (take k xs) → TurnsAtMost names_before names_now name → TurnsToFront names_then names_now (map string_bytes xs)
front_at names_then names_before names_now xs k x name lt is named before turned =
    let P : List (List ℕ) → Type 0 = λ all. TurnsToFront names_then names_now all in
    let Q : List ℕ → Type 0 = λ n. TurnsAtMost names_before names_now n in
    subst P (sym (names_split xs k x lt is)) (front-refused names_then names_before names_now (map string_bytes (take k xs)) (map string_bytes (drop (k + 1) xs)) (string_bytes x) before (subst Q named turned))

-- the loop goes on after the file of the next name
pub next_read : (faults_then faults_before faults_now : ℕ) (names_then names_before names_now : List (List ℕ)) (held_then held_before held_now : Option (List ℕ → List ℕ)) (most : ℕ) (xs : Names) (k : ℕ) (x : String Global) (name : List ℕ) (left left_now : Option ℕ) (reads reads_now : List (Option (Vec ℕ Global))) (read : Option (Vec ℕ Global))
    → k < length xs → x ≡ get_or xs k x → name ≡ string_bytes x
    → IsReadingAll faults_then faults_before names_then names_before held_then held_before most (map string_bytes (take k xs)) left reads
    → faults_now ≡ faults_before → TurnsToNext {T = Option (Vec ℕ Global)} left names_before names_now name (Ok read) → held_now ≡ held_before → HasLeft left read → GoesOn left read left_now
    → ((before : ℕ) → AreLeft most before left → ReadsBehind held_before name most before read)
    → IfSome left_now (λ l. l ≤ most)
    → ((before : ℕ) (file : List ℕ) → AreLeft most before left → IsWholeBehind most before file read → AreLeft most (before + length file) left_now)
    → reads_now ≡ reads ++ read ∷ []
    → IsReadingAll faults_then faults_now names_then names_now held_then held_now most (map string_bytes (take (k + 1) xs)) left_now reads_now
next_read faults_then faults_before faults_now names_then names_before names_now held_then held_before held_now most xs k x name left left_now reads reads_now read lt is named reading counted turned same has on read_is few behind pushed =
    let P : List (List ℕ) → List (Option (Vec ℕ Global)) → Type 0 = λ done rs. IsReadingAll faults_then faults_now names_then names_now held_then held_now most done left_now rs in
    let all : map string_bytes (take k xs) ++ name ∷ [] ≡ map string_bytes (take (k + 1) xs) =
    ap (λ (n : List ℕ). map string_bytes (take k xs) ++ n ∷ []) named ∙ sym (names_more xs k x lt is) in
    subst (λ (done : List (List ℕ)). P done reads_now) all (subst (λ (rs : List (Option (Vec ℕ Global))). P (map string_bytes (take k xs) ++ name ∷ []) rs) (sym pushed)
    (IsReadingAll-more faults_then faults_before faults_now names_then names_before names_now held_then held_before held_now most (map string_bytes (take k xs)) left left_now reads name read reading counted turned same has on read_is few behind))

-- the names that were opened of some are a front of these and others
front-opened : (names_then names_now : List (List ℕ)) (done rest : List (List ℕ)) (reads : List (Option (Vec ℕ Global))) → names_now ≡ names_then ++ opened done reads → TurnsToFront names_then names_now (done ++ rest)
front-opened names_then names_now done rest reads is =
    let h = opened-front done reads in
    (opened done reads, h.0 ++ rest, ap (λ (l : List (List ℕ)). l ++ rest) h.1 ∙ append_assoc (opened done reads) h.0 rest, is)

-- some of these names were turned to, where what was read of the next had no room
pub front_pushed : (names_then names_before names_now : List (List ℕ)) (xs : Names) (k : ℕ) (x : String Global) (name : List ℕ) (left : Option ℕ) (reads : List (Option (Vec ℕ Global))) (read : Option (Vec ℕ Global)) → k < length xs → x ≡ get_or xs k x → name ≡ string_bytes x
    → LeftTells left (map string_bytes (take k xs)) reads → names_before ≡ names_then ++ opened (map string_bytes (take k xs)) reads → TurnsToNext {T = Option (Vec ℕ Global)} left names_before names_now name (Ok read)
    → TurnsToFront names_then names_now (map string_bytes xs)
front_pushed names_then names_before names_now xs k x name left reads read lt is named tells before turned =
    let done : List (List ℕ) = map string_bytes (take k xs) in
    let rest : List (List ℕ) = map string_bytes (drop (k + 1) xs) in
    let P : List (List ℕ) → Type 0 = λ all. TurnsToFront names_then names_now all in
    let all : (done ++ name ∷ []) ++ rest ≡ map string_bytes xs =
    append_assoc done (name ∷ []) rest ∙ ap (λ (n : List ℕ). done ++ n ∷ rest) named ∙ sym (names_split xs k x lt is) in
    subst P all (front-opened names_then names_now (done ++ name ∷ []) rest (reads ++ read ∷ []) (names-next names_then names_before names_now done left reads name read tells before turned))

-- some of these names were turned to, where the next could not be read
pub front_refused : (names_then names_before names_now : List (List ℕ)) (xs : Names) (k : ℕ) (x : String Global) (name : List ℕ) (left : Option ℕ) (reads : List (Option (Vec ℕ Global))) (why : ShelfRefusal) → k < length xs → x ≡ get_or xs k x → name ≡ string_bytes x
    → LeftTells left (map string_bytes (take k xs)) reads → names_before ≡ names_then ++ opened (map string_bytes (take k xs)) reads → TurnsToNext {T = Option (Vec ℕ Global)} left names_before names_now name (Err why)
    → TurnsToFront names_then names_now (map string_bytes xs)
front_refused names_then names_before names_now xs k x name None reads why lt is named tells before turned =
    let P : List (List ℕ) → Type 0 = λ all. TurnsToFront names_then names_now all in
    subst P (sym (names_split xs k x lt is)) (front-opened names_then names_now (map string_bytes (take k xs)) (string_bytes x ∷ map string_bytes (drop (k + 1) xs)) reads (turned ∙ before))
front_refused names_then names_before names_now xs k x name (Some left) reads why lt is named tells before turned =
    front_at names_then names_before names_now xs k x name lt is named (before ∙ ap (λ (ns : List (List ℕ)). names_then ++ ns) (opened-all (map string_bytes (take k xs)) reads tells)) (refused_at (Option (Vec ℕ Global)) names_before names_now name why turned)
