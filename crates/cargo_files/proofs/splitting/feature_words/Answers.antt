use Rattle.std.proofs.Common.{◌++◌, ◌∷◌, [], map, take, sym, subst, get_or}
use Rattle.cargo_files.specs.Parting.{AreWordsOf}
use Rattle.cargo_files.proofs.MeaningFacts.{no_word, words_more}
use Rattle.cargo_files.proofs.PartingFacts.{words_push}
use Rattle.cargo_files.proofs.splitting.feature_words.Goals as goal

pub loop-list-preserved : goal.loop-list-preserved
loop-list-preserved c =
    let lists = c.args.lists.now in
    let i = c.loop-list.list-index in
    let added = c.in_ok-push_words.ensures in
    let before = map (λ t. t.now) (take i lists) in
    let words = map (λ t. t.now) c.loop-list.words.items in
    let all = words_push before words (get_or lists i no_word).now added.0 c.loop-list.invariant added.1 in
    subst (λ ts. AreWordsOf ts (map (λ t. t.now) c.push_words.new.words.items)) (sym (words_more lists i no_word c.loop-list-test.true))
    (subst (λ ws. AreWordsOf (before ++ (get_or lists i no_word).now ∷ []) ws) (sym added.2) all)
