-- The world after some events of cells and service is what these know of it.
use Rattle.std.specs.Prelude.{ℕ, ◌≡◌, ◌≢◌, ◌<◌, Bool, List, [], ◌∷◌, ◌++◌, if◌then◌else◌}
use Rattle.std.proofs.Common.{refl, sym, ap, ◌∙◌, inl, inr, subst, append-nil, eq-eqb}
use Rattle.std.proofs.lemmas.Bool.{cases_eq, ne_eqb}
use Rattle.zeus_base.specs.NodeLaws.{IsRising, IsBelow}
use Rattle.zeus_base.specs.declared.config.Config.{Config}
use Rattle.zeus_base.specs.TableLaws.{nth-put_same}
use Rattle.zeus_txn.specs.declared.tx.TxDecl.{TxDecl}
use Rattle.zeus_packet.specs.declared.letter.Letter.{Letter}
use Rattle.zeus_model.specs.State.{Node}
use Rattle.zeus_model.specs.World.{World, Event, no_node, node, link, last_view, happens, stepped}
use Rattle.machine_moves.specs.Fits.{StepFits}
use Rattle.machine_moves.proofs.Lists.{nth-put_other}
use Rattle.soundness.proofs.Runs.{IsReached, step-reached}
use Rattle.live_model.specs.Cell.{Posted, CellEvent, Core, step_of, does, notes_down, after, core_from, core, start_core, posts, posts_from, posts_to}
use Rattle.live_model.specs.Service.{ServiceEvent, views_made}
use Rattle.live_model.specs.Merge.{Turn, cell_turn}
use Rattle.live_replay.specs.Parts.{part, of_cell, of_service, cell_part, service_part}
use Rattle.live_replay.specs.Replayed.{core_of}
use Rattle.live_replay.proofs.Acts.{acts, Finds, happens-acts, NamesOwn, notes_down-both, notes_down-other, does-own}
use Rattle.live_replay.proofs.BookSteps.{Agrees, AgreeAfter}
use Rattle.live_replay.proofs.Early.{core_from-append}
use Rattle.live_replay.proofs.Merging.{part-append}
use Rattle.live_replay.proofs.Posting.{letters, letters-append, all_posted-own, all_posted-other, posts_from-append}
use Rattle.live_replay.proofs.Senders.{AllFrom}

-- the world is what the events so far have made of it
pub record Mirrors (c : Config) (txs : List TxDecl) (past : List Turn) (w : World) : Type 0 where
  pub config : w.config ≡ c
  pub declared : w.txs ≡ txs
  pub reached : IsReached w
  pub numbers : (n : ℕ) → n < c.nodes → (node w n).me ≡ n
  pub nodes : (n : ℕ) → n < c.nodes → node w n ≡ (core_of c txs n past).node
  pub links : (n receiver : ℕ) → n < c.nodes → link w.links n receiver ≡ letters (posts n c txs receiver (cell_part n past))
  pub views : w.views ≡ views_made c (service_part past)
  pub last : IsRising (last_view w.views) × IsBelow c.nodes (last_view w.views)
  pub books : (n : ℕ) → n < c.nodes → Agrees txs n w.book (core_of c txs n past).book

-- ---- one more event of a node

-- the part of a list with one more element at the end is that of the list and then that of the element
pub part-one : {A B : Type 0} (f : A → List B) (xs : List A) (x : A) → part f (xs ++ x ∷ []) ≡ part f xs ++ f x
unfolding part
part-one {B = B} f xs x = part-append f xs (x ∷ []) ∙ ap (λ (ys : List B). part f xs ++ ys) (append-nil (f x))

cell_part-own : (me : ℕ) (past : List Turn) (e : CellEvent) → cell_part me (past ++ cell_turn me e ∷ []) ≡ cell_part me past ++ e ∷ []
unfolding of_cell
cell_part-own me past e =
    part-one (of_cell me) past (cell_turn me e) ∙ ap (λ (b : Bool). cell_part me past ++ (if b then e ∷ [] else [])) (eq-eqb me me refl)

cell_part-other : (n me : ℕ) (past : List Turn) (e : CellEvent) → me ≢ n → cell_part n (past ++ cell_turn me e ∷ []) ≡ cell_part n past
unfolding of_cell
cell_part-other n me past e ne =
    part-one (of_cell n) past (cell_turn me e) ∙ (ap (λ (b : Bool). cell_part n past ++ (if b then e ∷ [] else [])) (ne_eqb me n ne) ∙ append-nil (cell_part n past))

service_part-cell : (me : ℕ) (past : List Turn) (e : CellEvent) → service_part (past ++ cell_turn me e ∷ []) ≡ service_part past
unfolding of_service
service_part-cell me past e = part-one of_service past (cell_turn me e) ∙ append-nil (service_part past)

core_from-one : (me : ℕ) (c : Config) (txs : List TxDecl) (k : Core) (e : CellEvent) → core_from me c txs k (e ∷ []) ≡ after me c txs k e
unfolding core_from
core_from-one me c txs k e = refl

core_of-own : (c : Config) (txs : List TxDecl) (me : ℕ) (past : List Turn) (e : CellEvent) → core_of c txs me (past ++ cell_turn me e ∷ []) ≡ after me c txs (core_of c txs me past) e
core_of-own c txs me past e =
    ap (λ (es : List CellEvent). core me c txs es) (cell_part-own me past e)
    ∙ (core_from-append me c txs (start_core me c txs) (cell_part me past) (e ∷ []) ∙ core_from-one me c txs (core_of c txs me past) e)

core_of-other : (c : Config) (txs : List TxDecl) (n me : ℕ) (past : List Turn) (e : CellEvent) → me ≢ n → core_of c txs n (past ++ cell_turn me e ∷ []) ≡ core_of c txs n past
core_of-other c txs n me past e ne = ap (λ (es : List CellEvent). core n c txs es) (cell_part-other n me past e ne)

posts_from-one : (me : ℕ) (c : Config) (txs : List TxDecl) (receiver : ℕ) (k : Core) (e : CellEvent) → posts_from me c txs receiver k (e ∷ []) ≡ posts_to receiver e.clock (does txs k.node e.deed).sent
unfolding posts_from
posts_from-one me c txs receiver k e = append-nil (posts_to receiver e.clock (does txs k.node e.deed).sent)

posts-own : (c : Config) (txs : List TxDecl) (me receiver : ℕ) (past : List Turn) (e : CellEvent)
    → letters (posts me c txs receiver (cell_part me (past ++ cell_turn me e ∷ [])))
    ≡ letters (posts me c txs receiver (cell_part me past)) ++ letters (posts_to receiver e.clock (does txs (core_of c txs me past).node e.deed).sent)
posts-own c txs me receiver past e =
    let k = core_of c txs me past in
    ap (λ (es : List CellEvent). letters (posts me c txs receiver es)) (cell_part-own me past e)
    ∙ (ap letters (posts_from-append me c txs receiver (start_core me c txs) (cell_part me past) (e ∷ []))
    ∙ (letters-append (posts me c txs receiver (cell_part me past)) (posts_from me c txs receiver k (e ∷ []))
    ∙ ap (λ (ps : List Posted). letters (posts me c txs receiver (cell_part me past)) ++ letters ps) (posts_from-one me c txs receiver k e)))

-- what an event of a cell needs in the world
pub record CellStep (c : Config) (txs : List TxDecl) (past : List Turn) (w : World) (me : ℕ) (e : CellEvent) : Type 0 where
  pub there : me < c.nodes
  pub finds : Finds w me e.deed
  pub fits : StepFits c txs (step_of me e.deed)
  pub names : NamesOwn txs me (node w me) e.deed

abbrev pub acted_world : World → ℕ → CellEvent → World
acted_world w me e = (acts w me e.deed).world

acted_node : (c : Config) (txs : List TxDecl) (past : List Turn) (w : World) (me : ℕ) (e : CellEvent) → Mirrors c txs past w → me < c.nodes
    → node (acted_world w me e) me ≡ (after me c txs (core_of c txs me past) e).node
unfolding after
acted_node c txs past w me e m there =
    nth-put_same no_node w.nodes me (does w.txs (node w me) e.deed).node
    ∙ (ap (λ (ts : List TxDecl). (does ts (node w me) e.deed).node) m.declared ∙ ap (λ (n : Node). (does txs n e.deed).node) (m.nodes me there))

acted_link : (c : Config) (txs : List TxDecl) (past : List Turn) (w : World) (me receiver : ℕ) (e : CellEvent) → Mirrors c txs past w → me < c.nodes
    → link (acted_world w me e).links me receiver ≡ letters (posts me c txs receiver (cell_part me (past ++ cell_turn me e ∷ [])))
acted_link c txs past w me receiver e m there =
    let own = does-own e.deed w.txs (node w me) in
    let sent = (does w.txs (node w me) e.deed).sent in
    let from : AllFrom me sent = subst (λ (n : ℕ). AllFrom n sent) (m.numbers me there) own.sent in
    let same : sent ≡ (does txs (core_of c txs me past).node e.deed).sent =
    ap (λ (ts : List TxDecl). (does ts (node w me) e.deed).sent) m.declared ∙ ap (λ (n : Node). (does txs n e.deed).sent) (m.nodes me there) in
    all_posted-own w.links sent me receiver e.clock from
    ∙ (ap (λ (ls : List Letter). ls ++ letters (posts_to receiver e.clock sent)) (m.links me receiver there)
    ∙ (ap (λ (ls : List Letter). letters (posts me c txs receiver (cell_part me past)) ++ letters (posts_to receiver e.clock ls)) same
    ∙ sym (posts-own c txs me receiver past e)))

-- the book of the node's own cell
acted_books : (c : Config) (txs : List TxDecl) (past : List Turn) (w : World) (me : ℕ) (e : CellEvent) → Mirrors c txs past w → CellStep c txs past w me e
    → AgreeAfter txs me (notes_down me w.config.degree w.txs w.book (node w me) e.deed) (notes_down me c.degree txs (core_of c txs me past).book (core_of c txs me past).node e.deed)
acted_books c txs past w me e m s =
    let k = core_of c txs me past in
    let here = notes_down-both e.deed w.config.degree txs me (node w me) w.book k.book (m.books me s.there) s.names in
    rw (m.declared)
    (subst (λ (d : Config). AgreeAfter txs me (notes_down me w.config.degree txs w.book (node w me) e.deed) (notes_down me d.degree txs k.book k.node e.deed)) m.config
    (subst (λ (n : Node). AgreeAfter txs me (notes_down me w.config.degree txs w.book (node w me) e.deed) (notes_down me w.config.degree txs k.book n e.deed)) (m.nodes me s.there) here))

-- the transactions that the step acknowledges are those that the cell does
pub acted_acked : (c : Config) (txs : List TxDecl) (past : List Turn) (w : World) (me : ℕ) (e : CellEvent) → Mirrors c txs past w → CellStep c txs past w me e
    → (acts w me e.deed).acked ≡ (notes_down me c.degree txs (core_of c txs me past).book (core_of c txs me past).node e.deed).acked
acted_acked c txs past w me e m s = let a = acted_books c txs past w me e m s in a.acked

-- if the world mirrors the events so far, then a cell's deed has the same answer in the world and in the cell
pub acted_answer : (c : Config) (txs : List TxDecl) (past : List Turn) (w : World) (me : ℕ) (e : CellEvent) → Mirrors c txs past w → me < c.nodes
    → (acts w me e.deed).answer ≡ (does txs (core_of c txs me past).node e.deed).answer
acted_answer c txs past w me e m there =
    ap (λ (ts : List TxDecl). (does ts (node w me) e.deed).answer) m.declared ∙ ap (λ (n : Node). (does txs n e.deed).answer) (m.nodes me there)

own_book : (c : Config) (txs : List TxDecl) (past : List Turn) (w : World) (me : ℕ) (e : CellEvent) → Mirrors c txs past w → CellStep c txs past w me e
    → Agrees txs me (acted_world w me e).book (core_of c txs me (past ++ cell_turn me e ∷ [])).book
unfolding after
own_book c txs past w me e m s =
    let a = acted_books c txs past w me e m s in
    subst (λ (k : Core). Agrees txs me (acted_world w me e).book k.book) (sym (core_of-own c txs me past e)) a.books

other_book : (c : Config) (txs : List TxDecl) (past : List Turn) (w : World) (n me : ℕ) (e : CellEvent) → Mirrors c txs past w → CellStep c txs past w me e → n < c.nodes → n ≢ me
    → Agrees txs n (acted_world w me e).book (core_of c txs n (past ++ cell_turn me e ∷ [])).book
other_book c txs past w n me e m s less other =
    subst (λ (k : Core). Agrees txs n (acted_world w me e).book k.book) (sym (core_of-other c txs n me past e (λ is. other (sym is))))
    (subst (λ (ts : List TxDecl). Agrees txs n (notes_down me w.config.degree ts w.book (node w me) e.deed).book (core_of c txs n past).book) (sym m.declared)
    (notes_down-other e.deed w.config.degree txs me n (node w me) w.book (core_of c txs n past).book (m.books n less) (λ is. other (sym is)) s.names))

-- the world after the event of a cell
pub cell-mirrors : (c : Config) (txs : List TxDecl) (past : List Turn) (w : World) (me : ℕ) (e : CellEvent) → Mirrors c txs past w → CellStep c txs past w me e
    → Mirrors c txs (past ++ cell_turn me e ∷ []) (stepped w (step_of me e.deed))
cell-mirrors c txs past w me e m s =
    let acts_so : happens w (step_of me e.deed) ≡ acts w me e.deed = happens-acts e.deed w me s.finds in
    let reached : IsReached (acted_world w me e) = subst (λ (x : Event). IsReached x.world) acts_so (step-reached c txs w (step_of me e.deed) m.config m.declared m.reached s.fits) in
    let own = does-own e.deed w.txs (node w me) in
    let from : AllFrom me (does w.txs (node w me) e.deed).sent = subst (λ (n : ℕ). AllFrom n (does w.txs (node w me) e.deed).sent) (m.numbers me s.there) own.sent in
    subst (λ (x : Event). Mirrors c txs (past ++ cell_turn me e ∷ []) x.world) (sym acts_so)
    record {
      config = m.config;
      declared = m.declared;
      reached = reached;
      numbers = λ n less. elim (cases_eq n me) [
        | inl same ↦ rw (same, nth-put_same no_node w.nodes me (does w.txs (node w me) e.deed).node) (own.node ∙ m.numbers me s.there)
        | inr other ↦ rw (nth-put_other no_node w.nodes me n (does w.txs (node w me) e.deed).node other) (m.numbers n less)
      ];
      nodes = λ n less. elim (cases_eq n me) [
        | inl same ↦ rw same (acted_node c txs past w me e m s.there ∙ ap (λ (k : Core). k.node) (sym (core_of-own c txs me past e)))
        | inr other ↦ nth-put_other no_node w.nodes me n (does w.txs (node w me) e.deed).node other
            ∙ (m.nodes n less ∙ ap (λ (k : Core). k.node) (sym (core_of-other c txs n me past e (λ is. other (sym is)))))
      ];
      links = λ n receiver less. elim (cases_eq n me) [
        | inl same ↦ rw same (acted_link c txs past w me receiver e m s.there)
        | inr other ↦ all_posted-other w.links (does w.txs (node w me) e.deed).sent me n receiver from other
            ∙ (m.links n receiver less ∙ ap (λ (es : List CellEvent). letters (posts n c txs receiver es)) (sym (cell_part-other n me past e (λ is. other (sym is)))))
      ];
      views = m.views ∙ ap (λ (es : List ServiceEvent). views_made c es) (sym (service_part-cell me past e));
      last = m.last;
      books = λ n less. elim (cases_eq n me) [
        | inl same ↦ rw same (own_book c txs past w me e m s)
        | inr other ↦ other_book c txs past w n me e m s less other
      ];
    }
