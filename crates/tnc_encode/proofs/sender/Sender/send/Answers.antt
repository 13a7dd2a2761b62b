use Rattle.tnc_encode.proofs.Common.{ap, sym, ◌∙◌, option_to_list, samples_at_once, pcm}
use Rattle.tnc_encode.proofs.MakingLemmas.{sent, sent_none, sent_one}
use Rattle.tnc_encode.proofs.sender.Sender.send.Goals as goal

pub returns-in-None : goal.returns-in-None
returns-in-None c = c.clear.ensures.items ∙ sent_none c.args.self.now.words
    ∙ ap (λ f. sent c.args.self.now.words (option_to_list f)) (sym c.in-None.is)

pub returns-in_ok-text-in-Some : goal.returns-in_ok-text-in-Some
returns-in_ok-text-in-Some c =
    let words = c.args.self.now.words in
    c.in_ok-text-in-Some.ensures
    ∙ ap pcm (c.deref.ensures.value ∙ c.in_ok-samples-in-Some.ensures
    ∙ ap (samples_at_once words) c.from_ref.ensures.value)
    ∙ sent_one words c.in-Some.octets ∙ ap (λ f. sent words (option_to_list f)) (sym c.in-Some.is)
