-- What writes make of the copies, one after another.
use Rattle.std.specs.Prelude.{ℕ, ◌≡◌, List, [], ◌∷◌, ◌++◌, length, Option, None, refl}
use Rattle.std.proofs.Common.{◌∙◌}
use Rattle.zeus_base.specs.TableLaws.{length-put}
use Rattle.zeus_packet.specs.declared.write.Write.{Write}
use Rattle.zeus_model.specs.declared.state.Copy.{Copy}
use Rattle.zeus_model.specs.Commit.{each_write}
use Rattle.zeus_model.specs.Tables.{nth}
use Rattle.object_table.specs.Table.{AreWithin, after_write}

module _ (f : Write → Option Copy → Option Copy) where
  -- the first write, then the others
  pub each_write-cons : (copies : List (Option Copy)) (w : Write) (ws : List Write) → each_write f copies (w ∷ ws) ≡ each_write f (after_write f copies w) ws
  unfolding each_write
  each_write-cons copies w ws = refl

  -- no write changes nothing
  pub each_write-nil : (copies : List (Option Copy)) → each_write f copies [] ≡ copies
  unfolding each_write
  each_write-nil copies = refl

  -- some writes, then the others
  pub each_write-append : (copies : List (Option Copy)) (vs ws : List Write) → each_write f copies (vs ++ ws) ≡ each_write f (each_write f copies vs) ws
  unfolding each_write
  each_write-append copies [] ws = refl
  each_write-append copies (v ∷ vs) ws = each_write-append (after_write f copies v) vs ws

  -- writes of objects that there are leave as many copies
  pub length-each_write : (copies : List (Option Copy)) (ws : List Write) (n : ℕ) → length copies ≡ n → AreWithin n ws → length (each_write f copies ws) ≡ n
  unfolding each_write AreWithin
  length-each_write copies [] n e h = e
  length-each_write copies (w ∷ ws) n e h =
      length-each_write (after_write f copies w) ws n (length-put None copies w.obj (f w (nth None copies w.obj)) (rw e h.0) ∙ e) h.1
